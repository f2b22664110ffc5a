-- What an owner has published is the changes of what is made.
use Rattle.std.proofs.Common.{◌≡◌, ◌∙◌, ◌<◌, ◌+◌, ◌==◌, ℕ, zero, suc, Bool, true, false, List, [], ◌∷◌, ◌++◌, None, Some, refl, sym, ap, subst}
use Rattle.std.proofs.Common.{arith, if◌then◌else◌}
use Rattle.std.specs.List.{AllByRecursion}
use Rattle.std.proofs.lemmas.List.{append_assoc, append_cancel_right}
use Rattle.std.proofs.lemmas.List.Elements.{All-from_recursion, recursion_from_All}
use Rattle.geometry.specs.Sectors.{Sector}
use Rattle.durable.specs.Flash.{Flash}
use Rattle.durable.specs.Updates.{Update, array_after, sole}
use Rattle.durable.specs.declared.memory.Core.{Core}
use Rattle.shared_nand.specs.Shown.{AreGivenBelow, HasPublished, KeepsBytes, ShowsArray, sector_shown, value_numbered}
use Rattle.shared_nand.proofs.Histories.{shows_kept}
use Rattle.version_map.specs.History.{Continues, cleared_after, version_after}
use Rattle.kept_reads.specs.Published.{Publishes, changes_shown}
use Rattle.kept_reads.specs.Sessions.{Reads, RunsBeside, SessionStep, changes_in, value_after, with_changes}
use Rattle.kept_reads.proofs.Kept.{further, sector_array, updates_extend}

pub loads : (sectors : ℕ) (bytes : ℕ → List ℕ) (loaded : List (ℕ × ℕ)) (made : List Update) → ShowsArray sectors bytes loaded (array_after made)
    → Publishes sectors bytes loaded loaded made
loads sectors bytes loaded made shows = record { opened = made; array = shows; since = []; both = refl; all = refl }

pub writes : (sectors : ℕ) (bytes : ℕ → List ℕ) (loaded before after : List (ℕ × ℕ)) (made : List Update) (s : ℕ) (value : Sector)
    → Publishes sectors bytes loaded before made → HasPublished bytes before after s value
    → Publishes sectors bytes loaded after (record { extent = sole s; value = value } ∷ made)
writes sectors bytes loaded before after made s value is change =
    let here : s + 0 ≡ s = omega arith in
    record {
      opened = is.opened;
      array = is.array;
      since = (s, change.0) ∷ is.since;
      both = change.1 ∙ ap (λ (rest : List (ℕ × ℕ)). (s, change.0) ∷ rest) is.both;
      all = λ i. (here i, sym change.2 i) ∷ is.all i;
    }

cleared_first : (since loaded : List (ℕ × ℕ)) (first count : ℕ) → cleared_after (since ++ loaded) first count ≡ cleared_after since first count ++ loaded
cleared_first since loaded first zero = refl
cleared_first since loaded first (suc count) = ap (λ (rest : List (ℕ × ℕ)). (first + count, 0) ∷ rest) (cleared_first since loaded first count)

cleared_shown : (bytes : ℕ → List ℕ) (since : List (ℕ × ℕ)) (rest : List (ℕ × Sector)) (first count : ℕ)
    → with_changes first count None (changes_shown bytes since ++ rest) ≡ changes_shown bytes (cleared_after since first count) ++ rest
cleared_shown bytes since rest first zero = refl
cleared_shown bytes since rest first (suc count) =
    ap (λ (changes : List (ℕ × Sector)). (first + count, None) ∷ changes) (cleared_shown bytes since rest first count)

pub trims : (sectors : ℕ) (bytes : ℕ → List ℕ) (loaded before : List (ℕ × ℕ)) (made : List Update) (first count : ℕ)
    → Publishes sectors bytes loaded before made
    → Publishes sectors bytes loaded (cleared_after before first count)
    (record { extent = record { first = first; count = count }; value = None } ∷ made)
trims sectors bytes loaded before made first count is = record {
  opened = is.opened;
  array = is.array;
  since = cleared_after is.since first count;
  both = ap (λ (h : List (ℕ × ℕ)). cleared_after h first count) is.both ∙ cleared_first is.since loaded first count;
  all = ap (with_changes first count None) is.all ∙ cleared_shown bytes is.since (changes_in is.opened) first count;
}

-- later numbers
abbrev IsBelow : ℕ → ℕ × ℕ → Type 0
IsBelow next change = 0 < change.1 → change.1 < next

value_kept : (next : ℕ) (bytes others : ℕ → List ℕ) → KeepsBytes next bytes others → (n : ℕ) → (0 < n → n < next)
    → value_numbered others n ≡ value_numbered bytes n
value_kept next bytes others keeps zero low = refl
value_kept next bytes others keeps (suc n) low = ap Some (keeps (suc n) (low (omega arith)))

shown_kept : (next : ℕ) (bytes others : ℕ → List ℕ) → KeepsBytes next bytes others → (since loaded : List (ℕ × ℕ))
    → AllByRecursion (IsBelow next) (since ++ loaded) → changes_shown bytes since ≡ changes_shown others since
shown_kept next bytes others keeps [] loaded given = refl
shown_kept next bytes others keeps (change ∷ since) loaded given =
    λ i. (change.0, sym (value_kept next bytes others keeps change.1 given.0) i) ∷ shown_kept next bytes others keeps since loaded given.1 i

older_given : (next : ℕ) (since loaded : List (ℕ × ℕ)) → AllByRecursion (IsBelow next) (since ++ loaded) → AllByRecursion (IsBelow next) loaded
older_given next [] loaded given = given
older_given next (change ∷ since) loaded given = older_given next since loaded given.1

pub stays : (sectors next : ℕ) (bytes others : ℕ → List ℕ) (loaded history : List (ℕ × ℕ)) (made : List Update)
    → Publishes sectors bytes loaded history made → AreGivenBelow next history → KeepsBytes next bytes others
    → Publishes sectors others loaded history made
stays sectors next bytes others loaded history made is given keeps =
    let each : AllByRecursion (IsBelow next) (is.since ++ loaded) = recursion_from_All (IsBelow next) (is.since ++ loaded)
    (subst (λ (h : List (ℕ × ℕ)). AreGivenBelow next h) is.both given) in
    record {
      opened = is.opened;
      array = shows_kept next bytes others keeps loaded sectors (array_after is.opened)
          (All-from_recursion (IsBelow next) loaded (older_given next is.since loaded each)) is.array;
      since = is.since;
      both = is.both;
      all = is.all ∙ ap (λ (changes : List (ℕ × Sector)). changes ++ changes_in is.opened) (shown_kept next bytes others keeps is.since loaded each);
    }

shown_append : (bytes : ℕ → List ℕ) (newer part : List (ℕ × ℕ)) → changes_shown bytes (newer ++ part) ≡ changes_shown bytes newer ++ changes_shown bytes part
shown_append bytes [] part = refl
shown_append bytes (change ∷ newer) part =
    ap (λ (rest : List (ℕ × Sector)). (change.0, value_numbered bytes change.1) ∷ rest) (shown_append bytes newer part)

-- what a sector holds after the open's history and changes since
shown_since : (sectors : ℕ) (bytes : ℕ → List ℕ) (part loaded : List (ℕ × ℕ)) (opened : List Update) → ShowsArray sectors bytes loaded (array_after opened)
    → (s : ℕ) → s < sectors → sector_shown bytes (part ++ loaded) s ≡ value_after (changes_shown bytes part ++ changes_in opened) s
shown_since sectors bytes [] loaded opened shows s lt = shows s lt ∙ sym (sector_array opened s)
shown_since sectors bytes (change ∷ part) loaded opened shows s lt = one_more (s == change.0) (shown_since sectors bytes part loaded opened shows s lt)
  where
    one_more : (here : Bool) → sector_shown bytes (part ++ loaded) s ≡ value_after (changes_shown bytes part ++ changes_in opened) s
        → value_numbered bytes (if here then change.1 else version_after (part ++ loaded) s)
        ≡ (if here then value_numbered bytes change.1 else value_after (changes_shown bytes part ++ changes_in opened) s)
    one_more true same = refl
    one_more false same = same

pub reads : (steps : List SessionStep) (f : Flash) (core : Core) (newer made : List Update) (sectors : ℕ) (bytes : ℕ → List ℕ)
    (loaded history seen : List (ℕ × ℕ)) (s : ℕ) → RunsBeside steps f core (newer ++ made) → Publishes sectors bytes loaded history made
    → Continues history seen → Continues seen loaded → s < sectors
    → (changes : List (ℕ × Sector)) × RunsBeside (Reads changes s (sector_shown bytes seen s) ∷ steps) f core (newer ++ made)
reads steps f core newer made sectors bytes loaded history seen s run is later part lt =
    let changes = changes_shown bytes part.0 ++ changes_in is.opened in
    let both : is.since ≡ later.0 ++ part.0 = append_cancel_right is.since (later.0 ++ part.0) loaded
    (sym is.both ∙ later.1 ∙ ap (λ (h : List (ℕ × ℕ)). later.0 ++ h) part.1 ∙ sym (append_assoc later.0 part.0 loaded)) in
    let shown : changes_in made ≡ changes_shown bytes later.0 ++ changes = is.all
    ∙ ap (λ (h : List (ℕ × ℕ)). changes_shown bytes h ++ changes_in is.opened) both
    ∙ ap (λ (all : List (ℕ × Sector)). all ++ changes_in is.opened) (shown_append bytes later.0 part.0)
    ∙ append_assoc (changes_shown bytes later.0) (changes_shown bytes part.0) (changes_in is.opened) in (
      changes,
      (
        run,
        further (changes_in (newer ++ made)) (changes_in made) changes (updates_extend newer made) (changes_shown bytes later.0, shown),
        ap (λ (h : List (ℕ × ℕ)). sector_shown bytes h s) part.1 ∙ shown_since sectors bytes part.0 loaded is.opened is.array s lt,
      ),
    )

pub at_rest : (steps : List SessionStep) (f : Flash) (core : Core) (newer made : List Update) (sectors : ℕ) (bytes : ℕ → List ℕ)
    (seen : List (ℕ × ℕ)) (s : ℕ) → RunsBeside steps f core (newer ++ made) → ShowsArray sectors bytes seen (array_after made) → s < sectors
    → RunsBeside (Reads (changes_in made) s (sector_shown bytes seen s) ∷ steps) f core (newer ++ made)
at_rest steps f core newer made sectors bytes seen s run shows lt = (run, updates_extend newer made, shows s lt ∙ sym (sector_array made s))
