use Rattle.std.proofs.Common.{List, ℕ, subst, sym, ◌≡◌, true, [], replicate, arith}
use Rattle.std.proofs.lemmas.Grind.{common_steps}
use Rattle.atomic_table.specs.Table.{opening}
use Rattle.version_map.specs.Rule.{FollowsHistory}
use Rattle.version_map.proofs.Steps.{begins_empty}
use Rattle.version_map.proofs.map.VersionMap.new.Goals as goal

pub of_words-requires : goal.of_words-requires
of_words-requires c =
    let shape = c.args.shape in
    let P : List ℕ → Type 0 = λ words. FollowsHistory shape
    (opening words [] (record { seen = []; told = []; looks = 0; publishes = true; pages = shape.pages })) in
    let words : c.deref.result.now ≡ replicate shape.sectors 0 = grind (arith, common_steps) in
    subst P (sym words) (begins_empty shape)
