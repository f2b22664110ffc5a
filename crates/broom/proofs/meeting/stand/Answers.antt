use Rattle.std.proofs.Common.{◌≡◌, sym, ap, ◌∙◌, subst}
use Rattle.flash_rule.specs.{World.sector_word, declared.view.View.View, Plays.Spared, BroomPlays.Named}
use Rattle.flash_rule.specs.Seats.{carried, host_of, lent_note, home, giver, given_note}
use Rattle.flash_table.specs.Flash.{broom_view, note_view, view_of}
use Rattle.broom.specs.{Ready.view_of_broom, Meeting.StoodTold, Meeting.page_in}
use Rattle.broom.proofs.{Tying.named_broom, Tying.named_pass, Tying.lent, Tying.stood_guest, Tying.stood_given, Tying.stood, meeting.stand.Goals.After-get_word}
use Rattle.broom.proofs.meeting.stand.Goals as goal

pub take_in-requires-clause-lent : goal.take_in-requires-clause-lent
take_in-requires-clause-lent c = lent (view_of_broom c.args.broom.now) (note_view c.broom_lend-note.result) c.broom_lend-note.ensures.note.0

-- what the word read tells of the broom
hosted : (c : After-get_word) → view_of c.take_in.new.pass ≡ host_of (view_of c.args.pass.now) (lent_note (view_of_broom c.args.broom.now))
hosted c = c.take_in.ensures.host ∙ ap (host_of (view_of c.args.pass.now)) c.broom_lend-note.ensures.note.0

spares : (c : After-get_word)
    → Spared (host_of (view_of c.args.pass.now) (lent_note (view_of_broom c.args.broom.now))) (page_in c.args.page c.args.generation)
    (carried (view_of_broom c.args.broom.now))
spares c =
    let h = c.requires.pass in
    let same = hosted c in
    subst (λ (v : View). Spared v (page_in c.args.page c.args.generation) (carried (view_of_broom c.args.broom.now))) same
    (c.get_word.ensures.spared h.0 (carried (view_of_broom c.args.broom.now)) (ap (λ (v : View). v.pin) same ∙ h.1.pinned) (ap (λ (v : View). v.copy) same))

pub give_back-note-requires-clause-guest : goal.give_back-note-requires-clause-guest
give_back-note-requires-clause-guest c =
    let at = (goal.at.give_back-note-requires-clause-guest c).After-get_word in
    let v = view_of c.args.pass.now in
    let x = view_of_broom c.args.broom.now in
    let t = stood_guest v x (page_in c.args.page c.args.generation) (named_pass v.role c.requires.pass.1.pass.role)
    (named_broom x.role c.requires.broom.rested.seat.role) (spares at) in
    let same = c.get_word.ensures.same ∙ hosted at in (t.0, ap (λ (y : View). y.guest) same ∙ t.1, λ e. t.2 (sym (ap (λ (y : View). y.role) same) ∙ e))

pub broom_come_home-requires-clause-given : goal.broom_come_home-requires-clause-given
broom_come_home-requires-clause-given c =
    let at = (goal.at.broom_come_home-requires-clause-given c).After-get_word in
    let v = view_of c.args.pass.now in
    let x = view_of_broom c.args.broom.now in
    let note = c.give_back-note.ensures.note.0 ∙ ap given_note (c.get_word.ensures.same ∙ hosted at) in
    let t = stood_given v x (page_in c.args.page c.args.generation) (named_pass v.role c.requires.pass.1.pass.role)
    (named_broom x.role c.requires.broom.rested.seat.role) (spares at) (note_view c.give_back-note.result) note in
    let role = ap (λ (y : View). y.role) c.broom_lend-note.ensures.lender in (t.0, t.1, role ∙ t.2, t.3, t.4, λ same. t.5 (sym role ∙ same))

pub returns-clause-stood : goal.returns-clause-stood
returns-clause-stood c =
    let at = (goal.at.returns-clause-stood c).After-get_word in
    let v = view_of c.args.pass.now in
    let x = view_of_broom c.args.broom.now in
    let y = broom_view c.broom_look.new.broom in
    let read = c.get_word.ensures.same ∙ hosted at in
    let came = c.broom_come_home.ensures.home ∙ (λ i. home (c.broom_lend-note.ensures.lender i) ((c.give_back-note.ensures.note.0 ∙ ap given_note read) i)) in
    let looked = subst (λ (z : View). Named z 0 (sector_word c.broom_look.result) y) came c.broom_look.ensures.named in
    let t =
    stood v x (page_in c.args.page c.args.generation) (named_pass v.role c.requires.pass.1.pass.role)
    (named_broom x.role c.requires.broom.rested.seat.role) (spares at) y c.broom_look.result c.requires.broom.rested.source
    c.requires.broom.rested.whole looked c.requires.pass.1.alone in
    subst (λ (z : View). StoodTold v x (page_in c.args.page c.args.generation) z y) (sym (c.give_back-note.ensures.giver ∙ ap giver read)) t
