-- The versions that the commands of a call leave.
use Rattle.std.proofs.Common.{◌≡◌, ◌⊎◌, ◌∙◌, inl, inr, ⊎_elim, ◌≤◌, ◌+◌, ◌-◌, ◌*◌, ◌%◌, ◌^◌, ℕ, Bool, true, false}
use Rattle.std.proofs.Common.{List, Result, Ok, Err, OnOk, refl, sym, ap, subst, arith}
use Rattle.std.proofs.lemmas.Bool.{cases_eq, false≢true}
use Rattle.geometry.specs.Sectors.{Sector}
use Rattle.geometry.specs.declared.answer.Was.{Was}
use Rattle.geometry.specs.declared.answer.Was.TheVariants as was
use Rattle.durable.specs.declared.command.Command.{Command}
use Rattle.durable.specs.declared.command.Command.TheVariants.{Program, Copy, Erase, Refused}
use Rattle.durable.specs.declared.extent.Extent.{Extent}
use Rattle.durable.specs.declared.memory.Core.{Core}
use Rattle.durable.specs.Choice.{IsNextCommand, Spends}
use Rattle.durable.specs.Commands.{Completes, is_program}
use Rattle.durable.specs.Flash.{Flash, PageContents, Version, SetsPage}
use Rattle.durable.specs.Updates.{Update}
use Rattle.durable.proofs.Cells.{erased_holds_none}
use Rattle.nand.specs.declared.failure.Failure.{Failure}
use Rattle.nand.specs.Nand.{tally_after}
use Rattle.nand.specs.Numbers.{IsOrder, chip_block, numbered}
use Rattle.nand.specs.Programs.{AddsVersion, HasSomewhere, TalliesMoves}
use Rattle.nand.specs.declared.flash.Tally.{Tally}

-- the flash has no version that it did not have before
abbrev pub HasNoNew : Flash → Flash → Type 0
HasNoNew f t = (b p : ℕ) (e : Extent) (m : ℕ) (v : Sector) → t b p ≡ Version e m v → HasSomewhere f e m v

pub none_new : (f t : Flash) → t ≡ f → HasNoNew f t
none_new f t same b p e m v is = (b, p, (λ i. sym same i b p) ∙ is)

-- a page that was set, and the others
set_or_kept : (f t : Flash) (b p : ℕ) (x : PageContents) → SetsPage f t b p x → (c q : ℕ) → ((c ≡ b) × (q ≡ p)) ⊎ (t c q ≡ f c q)
set_or_kept f t b p x sets c q = ⊎_elim
    (λ block. ⊎_elim (λ page. inl (block, page)) (λ differs. inr (sets.others c q (inr differs))) (cases_eq q p))
    (λ differs. inr (sets.others c q (inl differs)))
    (cases_eq c b)

completes_none : (f t : Flash) (m : Command) (s : Extent) (x : Sector) → is_program m ≡ false → Completes m s x f t → HasNoNew f t
completes_none f t (Program at n) s x is does b p e m v held = absurd (false≢true (sym is))
completes_none f t (Copy k from to) s x is does b p e m v held = ⊎_elim
    (λ here. (from.block, from.page, sym does.put ∙ (ap (λ (c : ℕ). t c to.page) (sym here.0) ∙ ap (t b) (sym here.1)) ∙ held))
    (λ kept. (b, p, sym kept ∙ held))
    (set_or_kept f t to.block to.page (f from.block from.page) does b p)
completes_none f t (Erase c) s x is does b p e m v held = ⊎_elim
    (λ here. absurd (erased_holds_none e m v (sym (ap (λ (d : ℕ). t d p) here ∙ does.0 p) ∙ held)))
    (λ differs. (b, p, sym (does.1 b p differs) ∙ held))
    (cases_eq b c)
completes_none f t Refused s x is does b p e m v held = (b, p, sym (does b p) ∙ held)

-- a command on the blocks in their order, which changed flash g of a call that began with f
module _ (f g t : Flash) (numbers : List ℕ) (bad : List Bool) (blocks most : ℕ) (order : IsOrder numbers bad blocks most) (had : HasNoNew f g) where
  pub still_none : (m : Command) (s : Extent) (x : Sector) → is_program m ≡ false → Completes m s x (numbered numbers g) (numbered numbers t)
      → HasNoNew f t
  still_none m s x is does b p e n v held =
      let there = completes_none (numbered numbers g) (numbered numbers t) m s x is does (order.to b) p e n v
      (ap (λ (c : ℕ). t c p) (order.put b) ∙ held) in
      had (chip_block numbers there.0) there.1 e n v there.2

  pub adds_version : (m : Command) (core : Core) (n : ℕ) (update : Update) → is_program m ≡ true → IsNextCommand core m → core.next_number ≡ n
      → Completes m update.extent update.value (numbered numbers g) (numbered numbers t) → AddsVersion f t n update
  adds_version (Program at k) core n update is next number does = record {
    block = chip_block numbers at.block;
    page = at.page;
    put = does.put ∙ ap (λ (j : ℕ). Version update.extent j update.value) (next.1 ∙ number);
    others = λ b p e m v held. ⊎_elim
        (λ here. inl (sym (order.put b) ∙ ap (chip_block numbers) here.0, here.1))
        (λ kept. inr (had b p e m v (sym (ap (λ (c : ℕ). t c p) (sym (order.put b)) ∙ (kept ∙ ap (λ (c : ℕ). g c p) (order.put b))) ∙ held)))
        (set_or_kept (numbered numbers g) (numbered numbers t) at.block at.page (Version update.extent k update.value) does (order.to b) p);
  }
  adds_version (Copy k from to) core n update is next number does = absurd (false≢true is)
  adds_version (Erase b) core n update is next number does = absurd (false≢true is)
  adds_version Refused core n update is next number does = absurd (false≢true is)

-- the same of a flash and a number that are those from before
pub adds_there : (f g t : Flash) (n k : ℕ) (update : Update) → g ≡ f → k ≡ n → AddsVersion g t k update → AddsVersion f t n update
adds_there f g t n k update flash number adds = subst (λ (h : Flash). AddsVersion h t n update) flash
    (subst (λ (j : ℕ). AddsVersion g t j update) number adds)

-- before the first attempt
pub moves_none : (tally : Tally) (pages : ℕ) → TalliesMoves tally tally 0 pages
moves_none tally pages = record {
  copies = 0;
  erases = 0;
  copied = omega arith;
  erased = omega arith;
  few = omega arith;
  one = omega arith;
}

-- after one attempt more
pub moves_more : {before mid now : Tally} {n pages : ℕ} → TalliesMoves before mid n pages → TalliesMoves mid now 1 pages
    → TalliesMoves before now (n + 1) pages
moves_more {before} {mid} {now} {n} {pages} some more =
    let one : (n + 1) * (pages - 1) ≡ n * (pages - 1) + 1 * (pages - 1) = grind arith in
    record {
      copies = some.copies + more.copies;
      erases = some.erases + more.erases;
      copied = omega (arith, some.copied, more.copied);
      erased = omega (arith, some.erased, more.erased);
      few = omega (arith, some.few, more.few, one);
      one = omega (arith, some.one, more.one);
    }

-- what a call has counted that isn't at its end and may still need so many commands
pub record HasSpent (before now : Tally) (pages left : ℕ) : Type 0 where
  pub copies : ℕ
  pub erases : ℕ
  pub programmed : now.programs ≡ before.programs
  pub copied : now.copies % 2 ^ 64 ≡ (before.copies + copies) % 2 ^ 64
  pub erased : now.erases % 2 ^ 64 ≡ (before.erases + erases) % 2 ^ 64
  pub few : copies ≤ pages - left
  pub one : erases ≤ 1
  pub opened : erases ≤ pages + 1 - left

pub none_spent : (tally : Tally) (pages left : ℕ) → HasSpent tally tally pages left
none_spent tally pages left = record {
  copies = 0;
  erases = 0;
  programmed = refl;
  copied = omega arith;
  erased = omega arith;
  few = omega arith;
  one = omega arith;
  opened = omega arith;
}

pub still_spent : (before mid now : Tally) (m : Command) (pages old new : ℕ) → is_program m ≡ false → HasSpent before mid pages old
    → now ≡ tally_after m mid → Spends m pages old new → HasSpent before now pages new
still_spent before mid now (Program at n) pages old new is spent counted spends = absurd (false≢true (sym is))
still_spent before mid now (Copy k from to) pages old new is spent counted spends = record {
  copies = spent.copies + 1;
  erases = spent.erases;
  programmed = ap (λ (t : Tally). t.programs) counted ∙ spent.programmed;
  copied = omega (arith, ap (λ (t : Tally). t.copies) counted, spent.copied);
  erased = ap (λ (t : Tally). t.erases % 2 ^ 64) counted ∙ spent.erased;
  few = omega (arith, spent.few, spends.0, spends.1);
  one = spent.one;
  opened = omega (arith, spent.opened, spends.0, spends.1);
}
still_spent before mid now (Erase b) pages old new is spent counted spends = record {
  copies = spent.copies;
  erases = spent.erases + 1;
  programmed = ap (λ (t : Tally). t.programs) counted ∙ spent.programmed;
  copied = ap (λ (t : Tally). t.copies % 2 ^ 64) counted ∙ spent.copied;
  erased = omega (arith, ap (λ (t : Tally). t.erases) counted, spent.erased);
  few = omega (arith, spent.few, spends.0, spends.1);
  one = omega (arith, spent.opened, spends.0);
  opened = omega (arith, spent.opened, spends.0, spends.1);
}
still_spent before mid now Refused pages old new is spent counted spends = record {
  copies = spent.copies;
  erases = spent.erases;
  programmed = ap (λ (t : Tally). t.programs) counted ∙ spent.programmed;
  copied = ap (λ (t : Tally). t.copies % 2 ^ 64) counted ∙ spent.copied;
  erased = ap (λ (t : Tally). t.erases % 2 ^ 64) counted ∙ spent.erased;
  few = omega (arith, spent.few, spends);
  one = spent.one;
  opened = omega (arith, spent.opened, spends);
}

-- a call that programs nothing, or once
pub or_once : (P Q : Type 0) (result : Result (Unit {0}) Failure) → OnOk result Q → OnOk result (P ⊎ Q)
or_once P Q (Ok v) is = inr is
or_once P Q (Err e) is = tt

pub by_answer : {P Q : Type 0} (had : Was) → (had ≡ was.Empty → P) → (had ≡ was.Written → Q) → P ⊎ Q
by_answer {P} {Q} was.Empty empty written = inl (empty refl)
by_answer {P} {Q} was.Written empty written = inr (written refl)
