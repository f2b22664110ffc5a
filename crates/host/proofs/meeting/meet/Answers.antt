use Rattle.std.proofs.{Common.◌≡◌, Common.sym, Common.ap, Common.◌∙◌, Common.subst}
use Rattle.flash_rule.specs.{World.sector_word, Plays.Looked, declared.view.View.View}
use Rattle.flash_rule.specs.Seats.{host_of, lent_note, home, lender, given_note}
use Rattle.flash_table.specs.Flash.{view_of, note_view}
use Rattle.host.specs.Told.{MetTold}
use Rattle.host.proofs.Meetings.{lent, guest, given, told}
use Rattle.host.proofs.meeting.meet.Goals as goal

pub take_in-requires-clause-lent : goal.take_in-requires-clause-lent
take_in-requires-clause-lent c = lent (view_of c.args.second.now) (note_view c.lend-note.result) c.lend-note.ensures.note.0

-- the first look
pub give_back-note-requires-clause-guest : goal.give_back-note-requires-clause-guest
give_back-note-requires-clause-guest c =
    let v = view_of c.args.first.now in
    let v' = view_of c.args.second.now in
    let hosted : view_of c.take_in.new.pass ≡ host_of v (lent_note v') = c.take_in.ensures.host ∙ ap (host_of v) c.lend-note.ensures.note.0 in
    let looked = subst (λ (x : View). Looked x 0 (sector_word c.look.result) (view_of c.look.new.pass)) hosted c.look.ensures.looked in
    guest v v' (view_of c.look.new.pass) _ c.requires.first.rested.pass.role c.requires.second.rested.pass.role looked

pub come_home-requires-clause-given : goal.come_home-requires-clause-given
come_home-requires-clause-given c =
    let v = view_of c.args.first.now in
    let v' = view_of c.args.second.now in
    let hosted : view_of c.take_in.new.pass ≡ host_of v (lent_note v') = c.take_in.ensures.host ∙ ap (host_of v) c.lend-note.ensures.note.0 in
    let looked = subst (λ (x : View). Looked x 0 (sector_word c.look.result) (view_of c.look.new.pass)) hosted c.look.ensures.looked in
    let t = given v v' (view_of c.look.new.pass) _ c.requires.first.rested.pass.role c.requires.second.rested.pass.role looked
    (note_view c.give_back-note.result) c.give_back-note.ensures.note.0 in
    let role : (view_of c.lend-note.new.pass).role ≡ (lender v').role = ap (λ (x : View). x.role) c.lend-note.ensures.lender in
    (t.0, t.1, role ∙ t.2, t.3, t.4, λ same. t.5 (sym role ∙ same))

pub returns-clause-met : goal.returns-clause-met
returns-clause-met c =
    let v = view_of c.args.first.now in
    let v' = view_of c.args.second.now in
    let w = view_of c.look.new.pass in
    let u = view_of c.look-2.new.pass in
    let hosted : view_of c.take_in.new.pass ≡ host_of v (lent_note v') = c.take_in.ensures.host ∙ ap (host_of v) c.lend-note.ensures.note.0 in
    let looked = subst (λ (x : View). Looked x 0 (sector_word c.look.result) w) hosted c.look.ensures.looked in
    let came : view_of c.come_home.new.pass ≡ home (lender v') (given_note w) =
    c.come_home.ensures.home ∙ (λ i. home (c.lend-note.ensures.lender i) (c.give_back-note.ensures.note.0 i)) in
    let t = told v v' w _ c.requires.first.rested.pass.role c.requires.second.rested.pass.role looked u _ c.requires.first.rested.alone
    c.requires.second.rested.whole (subst (λ (x : View). Looked x 0 (sector_word c.look-2.result) u) came c.look-2.ensures.looked) in
    subst (λ (x : View). MetTold v v' x u) (sym c.give_back-note.ensures.giver) t
