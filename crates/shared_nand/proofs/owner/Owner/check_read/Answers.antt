use Rattle.std.proofs.Common.{subst, sym, Option, List, ℕ}
use Rattle.version_map.specs.History.{version_after}
use Rattle.version_map.specs.Map.{history_seen}
use Rattle.shared_nand.specs.Reads.{ReadsVersion, ReadsValue}
use Rattle.shared_nand.specs.Shown.{sector_shown, AreGivenBelow}
use Rattle.shared_nand.proofs.Histories.{reads_value, given_part, version_below}
use Rattle.shared_nand.proofs.owner.Owner.check_read.Goals as goal

pub knows-requires : goal.knows-requires
knows-requires g c =
    let old = c.args.self.now in
    let tells = g.L.Layer.tells old.layer in
    let next = g.L.Layer.next_number old.layer in
    let seen = history_seen c.args.reader in
    let version = version_after seen c.args.sector in
    let part = c.check_reader.ensures.part in
    let given = given_part next part.0 seen (subst (λ (h : List (ℕ × ℕ)). AreGivenBelow next h) part.1 old.given) in
    let read = subst (λ (found : Option g.row.L-Token.Denot). ReadsVersion tells version found c.args.out.now) c.in-Some.is c.requires.read in
    (version, c.args.out.now, version_below next seen c.args.sector given read.0, read.1)

pub returns-in-Some-clause-value : goal.returns-in-Some-clause-value
returns-in-Some-clause-value g c =
    let old = c.args.self.now in
    let tells = g.L.Layer.tells old.layer in
    let next = g.L.Layer.next_number old.layer in
    let bytes = g.L.Layer.bytes_of old.layer in
    let seen = history_seen c.args.reader in
    let out = c.args.out.now in
    let part = c.check_reader.ensures.part in
    let given = given_part next part.0 seen (subst (λ (h : List (ℕ × ℕ)). AreGivenBelow next h) part.1 old.given) in
    let read = subst (λ (found : Option g.row.L-Token.Denot). ReadsVersion tells (version_after seen c.args.sector) found out) c.in-Some.is c.requires.read in
    subst (λ (found : Option g.row.L-Token.Denot). ReadsValue (sector_shown bytes seen c.args.sector) found out) (sym c.in-Some.is)
    (reads_value tells next bytes seen given c.in-Some.token c.knows.ensures c.args.sector out read)
