-- What a list of calls leaves.
use Rattle.std.proofs.Common.{◌≡◌, ◌⊎◌, ◌∙◌, inl, inr, ◌+◌, ◌<◌, ℕ, zero, suc, Bool, false, List, [], ◌∷◌, ◌++◌, length, Result, Ok, Err, IfOk, IfErr}
use Rattle.std.proofs.Common.{get_or, set, refl, sym, ap, subst, arith}
use Rattle.durable.specs.Flash.{Flash}
use Rattle.durable.specs.Updates.{Makes, Update}
use Rattle.nand.specs.declared.failure.Failure.{Failure}
use Rattle.nand.specs.declared.flash.Shape.{Shape}
use Rattle.nand.specs.declared.history.Change.{Change}
use Rattle.nand.specs.declared.layer.Durable.{Durable}
use Rattle.nand.specs.declared.layer.NotOpened.{NotOpened}
use Rattle.nand.specs.Histories.{Leads, update_by}
use Rattle.nand.specs.Opened.{CanOpen, Fails, IsOpenLayer, IsOpenable, layer_sectors}

-- a chip that holds the same can be opened too
pub same_chip : {N : Type 0} (flash : N → Flash) (shape : N → Shape) (bad : N → List Bool) (nand back : N) (sectors : ℕ) (updates : List Update)
    → (flash back ≡ flash nand) × (shape back ≡ shape nand) × (bad back ≡ bad nand) → CanOpen flash shape bad nand sectors updates
    → CanOpen flash shape bad back sectors updates
same_chip {N} flash shape bad nand back sectors updates same is =
    subst (λ (f : Flash). IsOpenable f (shape back) (bad back) sectors updates) (sym same.0)
    (subst (λ (s : Shape). IsOpenable (flash nand) s (bad back) sectors updates) (sym same.1)
    (subst (λ (m : List Bool). IsOpenable (flash nand) (shape nand) m sectors updates) (sym same.2) is))

module _ {N : Type 0} (flash : N → Flash) (shape : N → Shape) (bad : N → List Bool) (update : Update) (before : List Update) where
  abbrev pub LeavesOpen : Bool → Durable N → Type 0
  LeavesOpen acknowledged layer = (after : List Update) × Makes acknowledged update before after × IsOpenLayer flash shape bad layer after

  abbrev pub LeavesChip : Bool → ℕ → NotOpened N → Type 0
  LeavesChip acknowledged sectors refused =
      (after : List Update) × Makes acknowledged update before after × CanOpen flash shape bad refused.nand sectors after

  -- the chip is opened after a call that was cut short
  pub opens : (nand : N) (sectors : ℕ) (result : Result (Durable N) (NotOpened N))
      → CanOpen flash shape bad nand sectors before ⊎ CanOpen flash shape bad nand sectors (update ∷ before)
      → ((updates : List Update) → CanOpen flash shape bad nand sectors updates → IfOk result (λ layer. IsOpenLayer flash shape bad layer updates))
      → IfOk result (LeavesOpen false)
  opens nand sectors (Err refused) left again = tt
  opens nand sectors (Ok layer) (inl left) again = (before, inl refl, again before left)
  opens nand sectors (Ok layer) (inr left) again = (update ∷ before, inr refl, again (update ∷ before) left)

  -- or it comes back
  pub comes_back : (nand : N) (sectors : ℕ) (result : Result (Durable N) (NotOpened N))
      → CanOpen flash shape bad nand sectors before ⊎ CanOpen flash shape bad nand sectors (update ∷ before)
      → IfErr result (λ refused. (flash refused.nand ≡ flash nand) × (shape refused.nand ≡ shape nand) × (bad refused.nand ≡ bad nand))
      → IfErr result (LeavesChip false sectors)
  comes_back nand sectors (Ok layer) left back = tt
  comes_back nand sectors (Err refused) (inl left) back = (before, inl refl, same_chip flash shape bad nand refused.nand sectors before back left)
  comes_back nand sectors (Err refused) (inr left) back =
      (update ∷ before, inr refl, same_chip flash shape bad nand refused.nand sectors (update ∷ before) back left)

-- what a failed call leaves can be opened, for as many sectors
pub reopens : {N : Type 0} (flash : N → Flash) (shape : N → Shape) (bad : N → List Bool) (old new : Durable N) (nand : N) (update : Update)
    (updates : List Update) (cause : Failure) (sectors : ℕ) → sectors ≡ layer_sectors old → nand ≡ new.nand → Fails flash shape bad old new update updates cause
    → CanOpen flash shape bad nand sectors updates ⊎ CanOpen flash shape bad nand sectors (update ∷ updates)
reopens {N} flash shape bad old new nand update updates cause sectors size chip fails =
    subst (λ (x : N). CanOpen flash shape bad x sectors updates ⊎ CanOpen flash shape bad x sectors (update ∷ updates)) (sym chip)
    (subst (λ (n : ℕ). CanOpen flash shape bad new.nand n updates ⊎ CanOpen flash shape bad new.nand n (update ∷ updates)) (sym size) fails.reopens)

-- the last outcome is set
pub set_last : (outcomes : List Bool) (old new : Bool) (n : ℕ) → length outcomes ≡ n → set (outcomes ++ old ∷ []) n new ≡ outcomes ++ new ∷ []
set_last [] old new zero is = refl
set_last [] old new (suc n) is = absurd (omega (arith, is))
set_last (x ∷ outcomes) old new zero is = absurd (omega (arith, is))
set_last (x ∷ outcomes) old new (suc n) is = ap (λ (rest : List Bool). x ∷ rest) (set_last outcomes old new n (omega (arith, is)))

module _ (HasFailed : Update → List Update → Type 0) where
  -- one call more was made
  one_more : (calls : List Change) (outcomes : List Bool) (n : ℕ) (call : Change) (acknowledged : Bool) (before middle after : List Update)
      → Leads HasFailed calls outcomes before middle → length outcomes ≡ n → n < length calls → call ≡ get_or calls n call
      → Makes acknowledged (update_by call) middle after → (acknowledged ≡ false → HasFailed (update_by call) middle)
      → Leads HasFailed calls (outcomes ++ acknowledged ∷ []) before after
  one_more [] outcomes n call acknowledged before middle after leads same lt is follows failed = absurd (omega (arith, lt))
  one_more (first ∷ calls) [] zero call acknowledged before middle after leads same lt is follows failed = (
    after,
    subst (λ (x : Change). Makes acknowledged (update_by x) before after) is
        (subst (λ (us : List Update). Makes acknowledged (update_by call) us after) leads follows),
    subst (λ (x : Change). acknowledged ≡ false → HasFailed (update_by x) before) is
        (subst (λ (us : List Update). acknowledged ≡ false → HasFailed (update_by call) us) leads failed),
    refl,
  )
  one_more (first ∷ calls) [] (suc n) call acknowledged before middle after leads same lt is follows failed = absurd (omega (arith, same))
  one_more (first ∷ calls) (outcome ∷ outcomes) zero call acknowledged before middle after leads same lt is follows failed = absurd (omega (arith, same))
  one_more (first ∷ calls) (outcome ∷ outcomes) (suc n) call acknowledged before middle after leads same lt is follows failed = (
    leads.0,
    leads.1,
    leads.2,
    one_more calls outcomes n call acknowledged leads.0 middle after leads.3 (omega (arith, same)) (omega (arith, lt)) is follows failed,
  )

  -- the same where its outcome was put behind the others, and then set
  pub leads_more : (calls : List Change) (outcomes pushed : List Bool) (n : ℕ) (call : Change) (acknowledged : Bool) (before middle after : List Update)
      → Leads HasFailed calls outcomes before middle → pushed ≡ outcomes ++ false ∷ [] → length outcomes ≡ n → n < length calls
      → call ≡ get_or calls n call → Makes acknowledged (update_by call) middle after → (acknowledged ≡ false → HasFailed (update_by call) middle)
      → Leads HasFailed calls (set pushed n acknowledged) before after
  leads_more calls outcomes pushed n call acknowledged before middle after leads put same lt is follows failed =
      subst (λ (os : List Bool). Leads HasFailed calls os before after)
      (sym (ap (λ (os : List Bool). set os n acknowledged) put ∙ set_last outcomes false acknowledged n same))
      (one_more calls outcomes n call acknowledged before middle after leads same lt is follows failed)

longer : (outcomes : List Bool) (last : Bool) → length (outcomes ++ last ∷ []) ≡ length outcomes + 1
longer [] last = refl
longer (x ∷ outcomes) last = omega (arith, longer outcomes last)

pub one_longer : (outcomes pushed : List Bool) (n : ℕ) (acknowledged : Bool) → pushed ≡ outcomes ++ false ∷ [] → length outcomes ≡ n
    → length (set pushed n acknowledged) ≡ n + 1
one_longer outcomes pushed n acknowledged put same =
    ap length (ap (λ (os : List Bool). set os n acknowledged) put ∙ set_last outcomes false acknowledged n same)
    ∙ (longer outcomes acknowledged ∙ ap (λ (k : ℕ). k + 1) same)
