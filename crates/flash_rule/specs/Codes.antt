-- How the data of a view that has no Rust type is kept as a ghost value.
use Rattle.std.specs.Prelude.{◌≡◌, ℕ, ◌-◌, List, []}
use Rattle.std.proofs.Common.{ap, sym, suc-ne-zero}
use base.Stored.{Coded, coded×, coded_ℕ, coded_list, coded_via}
use Rattle.geometry.specs.History.{Call, Write, WriteNew, Trim}
use Rattle.geometry.specs.Limits.{Numbers}

-- a call as numbers and a list
abbrev pub call_parts : Call → ℕ × (ℕ × (ℕ × List ℕ))
call_parts (Write pass s v) = (1, (pass, (s, v)))
call_parts (WriteNew pass s v) = (2, (pass, (s, v)))
call_parts (Trim pass s) = (0, (pass, (s, [])))

-- calls with equal parts are equal
pub call_parts-inj : (c d : Call) → call_parts c ≡ call_parts d → c ≡ d
call_parts-inj (Write p s v) (Write q t w) e = λ i. Write (e i).1.0 (e i).1.1.0 (e i).1.1.1
call_parts-inj (WriteNew p s v) (WriteNew q t w) e = λ i. WriteNew (e i).1.0 (e i).1.1.0 (e i).1.1.1
call_parts-inj (Trim p s) (Trim q t) e = λ i. Trim (e i).1.0 (e i).1.1.0
call_parts-inj (Write p s v) (WriteNew q t w) e = absurd (suc-ne-zero 0 (sym (ap (λ x. x.0 - 1) e)))
call_parts-inj (Write p s v) (Trim q t) e = absurd (suc-ne-zero 0 (ap (λ x. x.0) e))
call_parts-inj (WriteNew p s v) (Write q t w) e = absurd (suc-ne-zero 0 (ap (λ x. x.0 - 1) e))
call_parts-inj (WriteNew p s v) (Trim q t) e = absurd (suc-ne-zero 1 (ap (λ x. x.0) e))
call_parts-inj (Trim p s) (Write q t w) e = absurd (suc-ne-zero 0 (sym (ap (λ x. x.0) e)))
call_parts-inj (Trim p s) (WriteNew q t w) e = absurd (suc-ne-zero 1 (sym (ap (λ x. x.0) e)))

-- calls can be kept in a view
abbrev pub call_coded : Coded Call
call_coded = coded_via (coded× coded_ℕ (coded× coded_ℕ (coded× coded_ℕ (coded_list coded_ℕ)))) call_parts call_parts-inj

-- histories can be kept in a view
abbrev pub calls_coded : Coded (List Call)
calls_coded = coded_list call_coded

-- a device's numbers can be kept in a view
abbrev pub numbers_coded : Coded Numbers
numbers_coded = coded_via (coded× coded_ℕ (coded× coded_ℕ (coded× coded_ℕ (coded× coded_ℕ (coded× coded_ℕ (coded× coded_ℕ (coded× coded_ℕ coded_ℕ)))))))
    (λ (n : Numbers). (n.luns, (n.blocks, (n.pages, (n.words, (n.sectors, (n.endurance, (n.hosts, n.brooms))))))))
    (λ x y e i. record {
      luns = (e i).0;
      blocks = (e i).1.0;
      pages = (e i).1.1.0;
      words = (e i).1.1.1.0;
      sectors = (e i).1.1.1.1.0;
      endurance = (e i).1.1.1.1.1.0;
      hosts = (e i).1.1.1.1.1.1.0;
      brooms = (e i).1.1.1.1.1.1.1;
    })
