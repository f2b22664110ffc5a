-- The words that the proofs of the rule have in common: each from the module that it is of.
pub use Rattle.std.proofs.Common.{Bool, List, None, Option, Some, [], ap, arith, eq-eqb, false, inl, inr, length, length-append, length-set, ne_eqb, refl}
pub use Rattle.std.proofs.Common.{replicate, set, slice_get, subst, suc, suc-mul, sym, true, zero, ℕ, ⊎_elim, ◌%◌, ◌*◌, ◌++◌, ◌+◌, ◌-◌, ◌<◌, ◌==◌, ◌^◌, ◌∙◌}
pub use Rattle.std.proofs.Common.{◌∷◌, ◌≡◌, ◌≢◌, ◌≤◌, ◌⊎◌}
pub use mathlib.Core.{Option.none, Option.some, Option.some-injective, Option.some-ne-none, Logic.dite}
pub use native.Mathlib.Decide.{dec_lt, ℕ_discrete}
pub use lib.ListN.{get_elem?}
pub use Rattle.atomic_table.proofs.Lists.{at_longer, at_set, set_again, set_else}
pub use Rattle.geometry.specs.History.{Begins, Call, Trim, Write, WriteNew, held}
pub use Rattle.geometry.{specs.Limits.Numbers, proofs.Histories.Begins-refl, proofs.WordBits.adds, proofs.WordBits.map_same}
pub use Rattle.geometry.specs.Words.{FitsPin, freed_added, kept_added, pin_word, FitsMap, map_word, page_index, pin_index}
pub use Rattle.geometry.specs.declared.words.{MapWord.MapWord, PinWord.PinWord, Phase.Phase}
pub use Rattle.flash_rule.specs.declared.facts.{Owned.Owned, Cycle.Cycle, Role.Role, Pin.Pin, Source.Source, Inspection.Inspection, Name.Name, Work.Work}
pub use Rattle.flash_rule.specs.declared.{facts.Name.TheVariants.Broom, facts.Name.TheVariants.Pass, view.View.View, carried.Carried.Carried}
pub use Rattle.flash_rule.specs.declared.facts.Role.TheVariants.{Dealer, Gone, Note, Player}
pub use Rattle.flash_rule.specs.declared.facts.Pin.TheVariants.{Accepted, Candidate, Clear, Stray}
pub use Rattle.flash_rule.specs.Views.{AreOfHosts, caller, calls_of, is_broom, is_live_role, is_pass, is_player, may_own, one_if, owned_at, pin_is_on, pins_on}
pub use Rattle.flash_rule.specs.Views.{role_weight, same_name, sum_of, total, weight, with_owned, without}
pub use Rattle.flash_rule.specs.World.{Fits, Intact, IsBlank, World, age_of, blank_word, data_word, half_cycle, is_intact, is_nameable, is_owned, is_reclaimed}
pub use Rattle.flash_rule.specs.World.{is_still, put, put_name, put_word, sector_word, is_shut}
pub use Rattle.flash_rule.specs.Ceded.{IsCeded, IsCededBy, IsReached, IsUnused, LawfulCeded, drained_of, entry_of, freed_as, rank}
pub use Rattle.flash_rule.specs.Rule.{Erases, Grown, IsCandidate, IsCurrent, IsDealt, IsFilling, IsProgrammed, IsValue, Lawful, LawfulBlock, LawfulCopy}
pub use Rattle.flash_rule.specs.Rule.{LawfulHolding, LawfulKind, LawfulKnowledge, LawfulOwned, LawfulPin, LawfulSector, LawfulSource, LawfulView, LawfulWork}
pub use Rattle.flash_rule.specs.Rule.{Programs, ReclaimsOne, LawfulLoads, LawfulInspection, WasShut}
pub use Rattle.flash_rule.specs.Onward.{ListsOnward, Onward, PinOnward, Untouched}
pub use Rattle.std.{proofs.Math.ListN.get_or, specs.Prelude.if◌then◌else◌}
pub use prog.Atomic.{either}
pub use Rattle.atomic_table.specs.Table.{Act, Allows, Splits, State, Valid, carried_after, keeps, step, stepped}
pub use Rattle.flash_rule.specs.BroomPlays.{CanInspect, Inspected, is_page_of, inspect_told, inspected_in, CanClaim, CanCondemn, CanDrain, CanGetStamp, CanMove}
pub use Rattle.flash_rule.specs.BroomPlays.{CanRenew, CanRetire, Claimed, Condemned, GotStamp, IsErasing, Moved, Named, claim_told, condemn_told, cycle_of}
pub use Rattle.flash_rule.specs.BroomPlays.{drain_told, freed_told, kept_told, owned_as, retired_told, wiper}
pub use Rattle.flash_rule.specs.{Seats.Ruled, Seats.gone, Seats.spare, Seats.spares, Forced.Forces}
pub use Rattle.flash_rule.specs.Plays.{CanClose, CanCount, CanPlace, IsOn, Looked, Met, Pinned, Placed, Sitter, Tested, Took, close_told, count_told}
pub use Rattle.flash_rule.specs.Plays.{is_unpinned, next_page, pin_told, take_told, test_told, unpin_told, words_in}
pub use Rattle.geometry.specs.declared.words.Phase.TheVariants.{Closed, Drained, Erasing, Free, Open, Retired, Victim}
pub use Rattle.std.proofs.lemmas.List.{get_or-set_other, get_or-set_same, length-replicate, Elements.All-nil}
pub use Rattle.geometry.specs.declared.words.TheConstants.{NEXT_PHASE, PAGE_WRITTEN, READER, TAKEN}
