use Rattle.std.proofs.Common.{◌≡◌, sym, ap, ◌∙◌, subst}
use Rattle.flash_rule.specs.{World.sector_word, declared.view.View.View, Plays.Looked, Plays.Spared}
use Rattle.flash_rule.specs.Seats.{carried, giver, host_of, lent_note, home, given_note}
use Rattle.flash_table.specs.Flash.{view_of, note_view}
use Rattle.host.specs.{Holding.page_of, Holding.pass_of, Told.MetHolding}
use Rattle.host.proofs.{Meetings.lent, Meetings.holds_guest, Meetings.holds_given, Meetings.met_holding, meeting.meet_holding.Goals.After-get_word}
use Rattle.host.proofs.meeting.meet_holding.Goals as goal

pub take_in-requires-clause-lent : goal.take_in-requires-clause-lent
take_in-requires-clause-lent c = lent (view_of c.args.other.now) (note_view c.lend-note.result) c.lend-note.ensures.note.0

-- what the word read tells of the other pass
hosted : (c : After-get_word) → view_of c.take_in.new.pass ≡ host_of (view_of (pass_of c.args.held)) (lent_note (view_of c.args.other.now))
hosted c = c.take_in.ensures.host ∙ ap (host_of (view_of (pass_of c.args.held))) c.lend-note.ensures.note.0

spares : (c : After-get_word)
    → Spared (host_of (view_of (pass_of c.args.held)) (lent_note (view_of c.args.other.now))) (page_of c.args.held) (carried (view_of c.args.other.now))
spares c =
    let h = c.requires.held in
    let same = hosted c in
    subst (λ (v : View). Spared v (page_of c.args.held) (carried (view_of c.args.other.now))) same
    (c.get_word.ensures.spared h.0 (carried (view_of c.args.other.now)) (ap (λ (v : View). v.pin) same ∙ h.1.pinned) (ap (λ (v : View). v.copy) same))

pub give_back-note-requires-clause-guest : goal.give_back-note-requires-clause-guest
give_back-note-requires-clause-guest c =
    let at = (goal.at.give_back-note-requires-clause-guest c).After-get_word in
    let t = holds_guest (view_of (pass_of c.args.held)) (view_of c.args.other.now)
    (page_of c.args.held) c.requires.held.1.rested.pass.role c.requires.other.rested.pass.role (spares at) in
    let same = c.get_word.ensures.same ∙ hosted at in (t.0, ap (λ (y : View). y.guest) same ∙ t.1, λ e. t.2 (sym (ap (λ (y : View). y.role) same) ∙ e))

pub come_home-requires-clause-given : goal.come_home-requires-clause-given
come_home-requires-clause-given c =
    let at = (goal.at.come_home-requires-clause-given c).After-get_word in
    let note = c.give_back-note.ensures.note.0 ∙ ap given_note (c.get_word.ensures.same ∙ hosted at) in
    let t =
    holds_given (view_of (pass_of c.args.held)) (view_of c.args.other.now)
    (page_of c.args.held) c.requires.held.1.rested.pass.role c.requires.other.rested.pass.role (spares at) (note_view c.give_back-note.result) note in
    let role = ap (λ (y : View). y.role) c.lend-note.ensures.lender in (t.0, t.1, role ∙ t.2, t.3, t.4, λ same. t.5 (sym role ∙ same))

pub returns-clause-met_holding : goal.returns-clause-met_holding
returns-clause-met_holding c =
    let at = (goal.at.returns-clause-met_holding c).After-get_word in
    let v = view_of (pass_of c.args.held) in
    let x = view_of c.args.other.now in
    let y = view_of c.look.new.pass in
    let read = c.get_word.ensures.same ∙ hosted at in
    let came = c.come_home.ensures.home ∙ (λ i. home (c.lend-note.ensures.lender i) ((c.give_back-note.ensures.note.0 ∙ ap given_note read) i)) in
    let looked = subst (λ (z : View). Looked z 0 (sector_word c.look.result) y) came c.look.ensures.looked in
    let t = met_holding v x (page_of c.args.held) c.requires.held.1.rested.pass.role c.requires.other.rested.pass.role
    (spares at) y _ c.requires.held.1.rested.alone c.requires.other.rested.whole looked in
    subst (λ (z : View). MetHolding v x (page_of c.args.held) z y) (sym (c.give_back-note.ensures.giver ∙ ap giver read)) t
