use Rattle.std.proofs.Common.{◌<◌, length, Some, set, ap, arith}
use Rattle.std.proofs.lemmas.List.{length-set}
use Rattle.durable.specs.Collecting.{weight, live_in}
use Rattle.durable.proofs.Counts.{kept_in_set, weight_in, live_most}
use Rattle.durable.proofs.counting.remap.Goals as goal

pub discount-requires : goal.discount-requires
discount-requires c b lt =
    let old = c.requires.from in
    omega (arith, weight_in b c.args.map.now.items c.args.sector c.requires.sector, c.requires.counted b lt, ap (weight b) old)

pub count-requires : goal.count-requires
count-requires c b lt =
    let map = c.args.map.now.items in
    let old = c.requires.from in
    let inside : b < length c.args.counts.now = omega (arith, lt, c.discount.ensures.size) in
    omega (
      arith,
      c.discount.ensures.counts b inside,
      c.requires.counted b inside,
      kept_in_set b map c.args.sector (Some c.args.to) c.requires.sector,
      live_most b (set map c.args.sector (Some c.args.to)),
      length-set map c.args.sector (Some c.args.to),
      c.requires.few,
      ap (weight b) old,
    )

pub returns-clause-counted : goal.returns-clause-counted
returns-clause-counted c b lt =
    let map = c.args.map.now.items in
    let old = c.requires.from in
    let before : b < length c.discount.new.counts = omega (arith, lt, c.count.ensures.size) in
    let inside : b < length c.args.counts.now = omega (arith, before, c.discount.ensures.size) in
    omega (
      arith,
      c.count.ensures.counts b before,
      c.discount.ensures.counts b inside,
      c.requires.counted b inside,
      kept_in_set b map c.args.sector (Some c.args.to) c.requires.sector,
      ap (weight b) old,
      ap (live_in b) c.set.ensures,
    )
