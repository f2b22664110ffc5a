use Rattle.std.proofs.{Common.◌≡◌, Common.true, Common.[], Common.◌∷◌, Common.Some, Common.refl, lemmas.Result.IfOk-weaker, lemmas.Result.IfOk-at_ok}
use Rattle.std.specs.{Prelude.Result, Prelude.Ok, Prelude.Err, Result.is_ok}
use Rattle.volume.specs.{Closing.sectors_left, Closing.last_view, Volume.flash_of}
use Rattle.uses.proofs.Callers.{first_ready, second_ready, both_ready, both_values}
use Rattle.uses.proofs.closing.two_writers.Goals as goal

pub write-one-requires-clause-pass : goal.write-one-requires-clause-pass
write-one-requires-clause-pass c = (first_ready (flash_of c.args.volume) c.args.passes.items _ c.requires.count c.requires.new c.index_mut.ensures.value).1

pub write-two-requires-clause-pass : goal.write-two-requires-clause-pass
write-two-requires-clause-pass c = (second_ready (flash_of c.args.volume) c.args.passes.items _ _ c.requires.count c.requires.new c.index_mut-2.ensures.value).1

pub close-requires-clause-passes : goal.close-requires-clause-passes
close-requires-clause-passes c = both_ready (flash_of c.args.volume) c.args.passes.items _ _ c.requires.count c.write-one.ensures.pass c.write-two.ensures.pass

-- what a result that is Ok has
ok_value : {T E : Type 0} → (r : Result T E) → is_ok r ≡ true → (x : T) × (r ≡ Ok x)
ok_value (Ok x) is = (x, refl)
ok_value (Err e) is = absurd (cc)

pub returns-clause-both : goal.returns-clause-both
returns-clause-both c =
    let f = flash_of c.args.volume in
    let one = ok_value c.write-one.result c.if-is_err.ensures.negation in
    let two = ok_value c.write-two.result c.if-is_err-2.ensures.negation in
    let first = first_ready f c.args.passes.items _ c.requires.count c.requires.new c.index_mut.ensures.value in
    let second = second_ready f c.args.passes.items _ _ c.requires.count c.requires.new c.index_mut-2.ensures.value in
    IfOk-weaker c.close.result _ (λ closed. sectors_left closed ≡ Some c.args.first.now ∷ Some c.args.second.now ∷ [])
    (λ closed final. both_values f c.args.passes.items c.index_mut.result.now c.index_mut-2.result.now c.write-one.new.pass c.write-two.new.pass
    c.args.first.now c.args.second.now one.0 two.0 (last_view closed).seen
    (sectors_left closed) c.requires.count c.requires.hosts c.requires.sectors first.0 second.0
    (IfOk-at_ok _ one.1 c.write-one.ensures.wrote) (IfOk-at_ok _ two.1 c.write-two.ensures.wrote) final)
    c.close.ensures.one_history

pub returns-then-is_err-clause-handed_back : goal.returns-then-is_err-clause-handed_back
returns-then-is_err-clause-handed_back c =
    both_ready (flash_of c.args.volume) c.args.passes.items _ _ c.requires.count c.write-one.ensures.pass c.write-two.ensures.pass
