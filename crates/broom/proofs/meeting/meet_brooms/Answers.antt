use Rattle.std.proofs.Common.{sym, ap, ◌∙◌, subst}
use Rattle.flash_rule.specs.{World.sector_word, BroomPlays.Named, declared.view.View.View, Seats.host_of, Seats.lent_note, Seats.home}
use Rattle.flash_table.specs.Flash.{broom_view, note_view}
use Rattle.broom.specs.{Ready.view_of_broom, Meeting.BroomsMet}
use Rattle.broom.proofs.{Tying.named_broom, Tying.lent, Tying.guest, Tying.given, Tying.brooms_met, meeting.meet_brooms.Goals.After-broom_look}
use Rattle.broom.proofs.meeting.meet_brooms.Goals as goal

pub broom_take_in-requires-clause-lent : goal.broom_take_in-requires-clause-lent
broom_take_in-requires-clause-lent c = lent (view_of_broom c.args.second.now) (note_view c.broom_lend-note.result) c.broom_lend-note.ensures.note.0

-- the first look
first_look : (c : After-broom_look)
    → Named (host_of (view_of_broom c.args.first.now) (lent_note (view_of_broom c.args.second.now))) 0 (sector_word c.broom_look.result)
    (broom_view c.broom_look.new.broom)
first_look c =
    let hosted = c.broom_take_in.ensures.host ∙ ap (host_of (view_of_broom c.args.first.now)) c.broom_lend-note.ensures.note.0 in
    subst (λ (x : View). Named x 0 (sector_word c.broom_look.result) (broom_view c.broom_look.new.broom)) hosted c.broom_look.ensures.named

pub broom_give_back-note-requires-clause-guest : goal.broom_give_back-note-requires-clause-guest
broom_give_back-note-requires-clause-guest c =
    let v = view_of_broom c.args.first.now in
    let v' = view_of_broom c.args.second.now in
    guest v v' (broom_view c.broom_look.new.broom) c.broom_look.result (named_broom v.role c.requires.first.rested.seat.role)
    (named_broom v'.role c.requires.second.rested.seat.role) c.requires.first.rested.source
    (first_look (goal.at.broom_give_back-note-requires-clause-guest c).After-broom_look)

pub broom_come_home-requires-clause-given : goal.broom_come_home-requires-clause-given
broom_come_home-requires-clause-given c =
    let v = view_of_broom c.args.first.now in
    let v' = view_of_broom c.args.second.now in
    let t =
    given v v' (broom_view c.broom_look.new.broom) c.broom_look.result (named_broom v.role c.requires.first.rested.seat.role)
    (named_broom v'.role c.requires.second.rested.seat.role) c.requires.first.rested.source
    (first_look (goal.at.broom_come_home-requires-clause-given c).After-broom_look)
    (note_view c.broom_give_back-note.result) c.broom_give_back-note.ensures.note.0 in
    let role = ap (λ (x : View). x.role) c.broom_lend-note.ensures.lender in (t.0, t.1, role ∙ t.2, t.3, t.4, λ same. t.5 (sym role ∙ same))

pub returns-clause-met_brooms : goal.returns-clause-met_brooms
returns-clause-met_brooms c =
    let v = view_of_broom c.args.first.now in
    let v' = view_of_broom c.args.second.now in
    let u = broom_view c.broom_look-2.new.broom in
    let came = c.broom_come_home.ensures.home ∙ (λ i. home (c.broom_lend-note.ensures.lender i) (c.broom_give_back-note.ensures.note.0 i)) in
    let again = subst (λ (x : View). Named x 0 (sector_word c.broom_look-2.result) u) came c.broom_look-2.ensures.named in
    let t =
    brooms_met v v' (broom_view c.broom_look.new.broom) c.broom_look.result (named_broom v.role c.requires.first.rested.seat.role)
    (named_broom v'.role c.requires.second.rested.seat.role) c.requires.first.rested.source
    (first_look (goal.at.returns-clause-met_brooms c).After-broom_look) u c.broom_look-2.result c.requires.second.rested.source
    c.requires.second.rested.whole again c.requires.first.rested.alone in
    subst (λ (x : View). BroomsMet v v' x u) (sym c.broom_give_back-note.ensures.giver) t
