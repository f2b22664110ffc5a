use Rattle.std.proofs.Common.{◌≡◌, ◌∙◌, ap, arith, length, refl, subst}
use Rattle.geometry.specs.Limits.{Numbers, numbers}
use Rattle.exports.specs.Opening.{AreFresh}
use Rattle.exports.proofs.DealtSeats.{uncapped}
use Rattle.exports.proofs.shared.opening.mintlintel_shared_open.Goals as goal

pub returns-then-deal-clause-fresh : goal.returns-then-deal-clause-fresh
returns-then-deal-clause-fresh c _ =
    let given = c.in-Ok.ensures.given in let limits = c.in-Ok.geometry.in_limits in
    let few_hosts = limits.hosts_high in let few_brooms = limits.brooms_high in
    let host_count = ap (λ (n : Numbers). n.hosts) given in let broom_count = ap (λ (n : Numbers). n.brooms) given in
    let hosts : c.capped_count-host_count.result ≡ length c.args.hosts.now =
    uncapped 500 _ _ c.capped_count-host_count.ensures (omega (arith, few_hosts, host_count)) in
    let brooms : c.capped_count-broom_count.result ≡ length c.args.brooms.now =
    uncapped 32 _ _ c.capped_count-broom_count.ensures (omega (arith, few_brooms, broom_count)) in
    subst (λ (n : Numbers). AreFresh n c.deal.new.hosts c.deal.new.brooms)
    (given ∙ (λ i. numbers c.args.luns c.args.blocks c.args.pages c.args.words c.args.sectors c.args.endurance (hosts i) (brooms i)))
    (c.if-deal.ensures.fresh refl)
