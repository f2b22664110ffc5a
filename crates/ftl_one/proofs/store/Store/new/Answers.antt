use Rattle.std.proofs.Common.{◌≡◌, ◌∙◌, inl, inr, ℕ, zero, suc, cond, ◌<◌, List, [], ◌∷◌, length, map, get_or, replicate, sum_by, Option, None, Some, is_some}
use Rattle.std.{proofs.Common.sym, proofs.Common.ap, proofs.Common.refl, proofs.Common.subst, proofs.Common.arith, proofs.Common.rules, specs.Option.option_map}
use Rattle.std.proofs.lemmas.{List.length-replicate, List.get_or-replicate, List.get_or_past, List.nil_from_length, List.Sums.sum_by-cons, Bool.cases_lt}
use Rattle.geometry.specs.{declared.geometry.Geometry.Geometry, declared.page_addr.PageAddr.PageAddr, Sectors.Sector}
use Rattle.geometry.specs.Geometry.{blocks_of, page_bytes_of, sectors_of}
use Rattle.die.specs.{Die.geometry_of as die_geometry_of, Die.block_of, Pages.Block, Pages.new_block}
use Rattle.ftl_one.specs.Entries.{IsMapped, entries_in, sectors_in, value_in, live_count}
use Rattle.ftl_one.{specs.Store.array_of, specs.Store.entries_of, specs.Store.erases_of, specs.Store.retired_of, proofs.Entries.length-entries}
use Rattle.ftl_one.proofs.store.Store.new.Goals as goal
use Rattle.ftl_one.proofs.store.Store.new.Goals.{In_ok-vec-3}

none_anywhere : (n s : ℕ) → get_or (replicate n (let o : Option PageAddr = None in o)) s None ≡ None
none_anywhere n s = elim (cases_lt s n) [
  | inl low ↦ get_or-replicate n s None None low
  | inr past ↦ get_or_past (replicate n None) s None (omega (arith, past, length-replicate n (let o : Option PageAddr = None in o)))
]

sum_by-nothing : {X : Type 0} (f : X → ℕ) (n : ℕ) (x : X) → f x ≡ 0 → sum_by f (replicate n x) ≡ 0
sum_by-nothing f zero x e = refl
sum_by-nothing f (suc n) x e = omega (arith, sum_by-cons f x (replicate n x), sum_by-nothing f n x e, e)

map-replicate : {X Y : Type 0} (f : X → Y) (n : ℕ) (x : X) → map f (replicate n x) ≡ replicate n (f x)
map-replicate f zero x = refl
map-replicate f (suc n) x = ap (λ ys. f x ∷ ys) (map-replicate f n x)

-- a new block has no entry
no_entries : (n : ℕ) (current : List (Option PageAddr)) (b : ℕ) (block : Block) → block ≡ new_block → entries_in n current b block ≡ []
no_entries n current b block e = nil_from_length (entries_in n current b block) (length-entries n current b block ∙ ap (λ (k : Block). length k.pages) e)

the_current : (c : In_ok-vec-3) → c.in_ok-vec.field-0.items ≡ replicate c.sectors.result None
the_current c = c.in_ok-vec.ensures.items_if_clones_equal (λ y h. search rules) ∙ ap (λ (o : Option PageAddr). replicate c.sectors.result o) c.none.ensures

the_live : (c : In_ok-vec-3) → c.in_ok-vec-2.field-0.items ≡ replicate c.blocks-2.result 0
the_live c = c.in_ok-vec-2.ensures.items_if_clones_equal (λ y h. search rules)

-- a map that names no page, over new blocks
mapped_new : (n count sectors : ℕ) (B : ℕ → Block) → ((b : ℕ) → b < count → B b ≡ new_block)
    → IsMapped n count sectors B (replicate sectors None) (replicate count 0)
mapped_new n count sectors B fresh =
    record {
      current_size = length-replicate sectors None;
      live_size = length-replicate count 0;
      named = λ s at e. absurd (none_some at (sym (none_anywhere sectors s) ∙ e));
      stamps = λ b p low short. absurd (omega (arith, ap (λ (k : Block). length k.pages) (fresh b low)));
      counts = λ b low. get_or-replicate count b 0 0 low ∙ sym (ap live_count (no_entries n (replicate sectors None) b (B b) (fresh b low)));
      total = sum_by-nothing (λ (k : ℕ). k) count 0 refl ∙ sym (sum_by-nothing (λ (o : Option PageAddr). cond (is_some o) 1 0) sectors None refl);
    }
  where
    none_some : (at : PageAddr) → None ≡ Some at → ⊥
    none_some at h = cc

pub invariant_of-result : goal.invariant_of-result
invariant_of-result c =
    let g = c.args.geometry.now in
    let die = c.in_ok-new.field-0 in
    let same : die_geometry_of die ≡ g = c.in_ok-new.ensures.geometry in
    let current : c.in_ok-vec.field-0.items ≡ replicate (sectors_of g) None = the_current c ∙ ap (λ (k : ℕ). replicate k None) c.sectors.ensures.value in
    let live : c.in_ok-vec-2.field-0.items ≡ replicate (blocks_of g) 0 = the_live c ∙ ap (λ (k : ℕ). replicate k 0) c.blocks-2.ensures.value in
    let P : Geometry → List (Option PageAddr) → List ℕ → Type 0 = λ h o xs. IsMapped (page_bytes_of h) (blocks_of h) (sectors_of h) (block_of die) o xs in
    record {
      page_sized = omega (arith, c.in_ok-vec-3.ensures.len, c.in_ok-vec-3.field-0.ok.0, c.page_bytes.ensures, ap page_bytes_of same);
      mapped = subst (λ (h : Geometry). P h c.in_ok-vec.field-0.items c.in_ok-vec-2.field-0.items) (sym same)
          (subst (λ (o : List (Option PageAddr)). P g o c.in_ok-vec-2.field-0.items) (sym current)
          (subst (λ (xs : List ℕ). P g (replicate (sectors_of g) None) xs) (sym live)
          (mapped_new (page_bytes_of g) (blocks_of g) (sectors_of g) (block_of die) c.in_ok-new.ensures.blocks)));
    }

pub returns : goal.returns
unfolding array_of entries_of erases_of retired_of sectors_in
returns c =
    let g = c.args.geometry.now in
    let die = c.in_ok-new.field-0 in
    let current : c.in_ok-vec.field-0.items ≡ replicate (sectors_of g) None =
    the_current (goal.at.returns c).In_ok-vec-3 ∙ ap (λ (k : ℕ). replicate k None) c.sectors.ensures.value in
    let f : Option PageAddr → Sector = option_map (value_in (page_bytes_of (die_geometry_of die)) (block_of die)) in
    record {
      geometry = c.in_ok-new.ensures.geometry;
      sectors = ap (map f) current ∙ map-replicate f (sectors_of g) None;
      entries = λ b low. no_entries (page_bytes_of (die_geometry_of die)) c.in_ok-vec.field-0.items b (block_of die b) (c.in_ok-new.ensures.blocks b low);
      erases = λ b low. ap (λ (k : Block). k.erases) (c.in_ok-new.ensures.blocks b low);
      retired = λ b low. ap (λ (k : Block). k.retired) (c.in_ok-new.ensures.blocks b low);
    }
