-- The collection of a command is the one that was due, if a page was programmed.
use Rattle.std.proofs.Common.{◌≡◌, ℕ, ◌+◌, Bool, true, false, cond, ltb, List, Option, None, Some, refl, sym, ap, ◌∙◌, subst, arith}
use Rattle.std.{specs.Prelude.unwrap_or, specs.Option.option_and_then, specs.Option.option_map_or, proofs.lemmas.Bool.Decides.nat_tests}
use Rattle.geometry.specs.{Geometry.endurance_of, Geometry.pages_of, History.Trim, History.Write, History.WriteNew, declared.geometry.Geometry.Geometry}
use Rattle.ftl_one.specs.{Collections.collection_between, Collections.collection_due, Stock.Stock, Stock.has_page, Stock.next, Stock.ready, Stock.write_of}
use Rattle.ftl_one.{specs.declared.collection.Collection.Collection, proofs.Collections.between_nothing, proofs.Collections.write-makes}
use Rattle.ftl_one.proofs.{Current.next_empty, Current.next_written, Laws.map-erases, Laws.nothing_same, Laws.write-programs}
use Rattle.trace.specs.declared.commands.{Command.Command, Op.Op}
use Rattle.trace.specs.declared.commands.Op.TheVariants as op
use Rattle.answers.specs.Answers.{call_by}
use Rattle.runs.specs.{Logs.due_before, Playing.after_call, Playing.stock_after}

not_less : (a b : ℕ) → b ≡ a → ltb a b ≡ false
not_less a b same = grind (arith, nat_tests)

one_more : (a b : ℕ) → b ≡ a + 1 → ltb a b ≡ true
one_more a b more = grind (arith, nat_tests)

-- where no page is programmed nothing is made
unmade : (due : Option Collection) (a b : ℕ) → b ≡ a → cond (ltb a b) due None ≡ None
unmade due a b same = ap (λ t. cond t due None) (not_less a b same)

is_made : (due : Option Collection) (a b : ℕ) → b ≡ a + 1 → cond (ltb a b) due None ≡ due
is_made due a b more = ap (λ t. cond t due None) (one_more a b more)

same_stock : (geo : Geometry) (k : Stock) (due : Option Collection) → collection_between geo k k ≡ cond (ltb k.programs k.programs) due None
same_stock geo k due = between_nothing geo k k (nothing_same k) ∙ sym (unmade due k.programs k.programs refl)

-- a write, by what it comes to
by_write : (geo : Geometry) (k : Stock) (s : ℕ) (r : Option Stock) → option_and_then (write_of (pages_of geo) s) (ready (endurance_of geo) k) ≡ r
    → collection_between geo k (unwrap_or r k) ≡ cond (ltb k.programs (unwrap_or r k).programs) (collection_due geo k) None
by_write geo k s None is = same_stock geo k (collection_due geo k)
by_write geo k s (Some new) is =
    write-makes geo s k new is ∙ sym (is_made (collection_due geo k) k.programs new.programs (write-programs (pages_of geo) (endurance_of geo) s k new is))

of_write : (geo : Geometry) (k : Stock) (s : ℕ) (value : List ℕ)
    → collection_between geo k (after_call geo k (Write 0 s value)) ≡ cond (ltb k.programs (after_call geo k (Write 0 s value)).programs)
    (collection_due geo k) None
unfolding next
of_write geo k s value = by_write geo k s (next geo k (Write 0 s value)) refl

of_new : (geo : Geometry) (k : Stock) (s : ℕ) (value : List ℕ) (written : Bool) → has_page s k ≡ written
    → collection_between geo k (after_call geo k (WriteNew 0 s value)) ≡ cond (ltb k.programs (after_call geo k (WriteNew 0 s value)).programs)
    (collection_due geo k) None
of_new geo k s value true is =
    subst (λ (r : Option Stock). collection_between geo k (unwrap_or r k) ≡ cond (ltb k.programs (unwrap_or r k).programs) (collection_due geo k) None)
    (sym (next_written geo k s value is)) (same_stock geo k (collection_due geo k))
of_new geo k s value false is =
    subst (λ (r : Option Stock). collection_between geo k (unwrap_or r k) ≡ cond (ltb k.programs (unwrap_or r k).programs) (collection_due geo k) None)
    (sym (next_empty geo k s value is)) (of_write geo k s value)

of_trim : (geo : Geometry) (k : Stock) (s : ℕ)
    → collection_between geo k (after_call geo k (Trim 0 s)) ≡ cond (ltb k.programs (after_call geo k (Trim 0 s)).programs) None None
unfolding next
of_trim geo k s =
    between_nothing geo k (after_call geo k (Trim 0 s)) (record { blocks = λ c. map-erases k.blocks s c; erases = refl; copies = refl })
    ∙ sym (unmade None k.programs k.programs refl)

by_op : (geo : Geometry) (k : Stock) (o : Op) (s : ℕ) (value : List ℕ)
    → collection_between geo k (option_map_or (after_call geo k) (call_by o s value) k)
    ≡ cond (ltb k.programs (option_map_or (after_call geo k) (call_by o s value) k).programs) (due_before o geo k) None
by_op geo k op.Read s value = same_stock geo k None
by_op geo k op.Write s value = of_write geo k s value
by_op geo k op.New s value = of_new geo k s value (has_page s k) refl
by_op geo k op.Trim s value = of_trim geo k s
by_op geo k op.Meet s value = same_stock geo k None

-- what a command made, by the pages programmed before and after
pub made_is : (geo : Geometry) (k new : Stock) (c : Command) (due : Option Collection) → new ≡ stock_after geo k c → due ≡ due_before c.op geo k
    → collection_between geo k new ≡ cond (ltb k.programs new.programs) due None
made_is geo k new c due is due_is =
    subst (λ (x : Stock). collection_between geo k x ≡ cond (ltb k.programs x.programs) due None) (sym is)
    (subst (λ (d : Option Collection). collection_between geo k (stock_after geo k c) ≡ cond (ltb k.programs (stock_after geo k c).programs) d None)
    (sym due_is)
    (by_op geo k c.op c.sector c.page))
