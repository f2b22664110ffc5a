use Rattle.std.proofs.Common.{◌≡◌, inl, inr, ℕ, List, [], Result, Ok, Err, subst, arith}
use Rattle.answers.specs.Streams.{Passage, Whole, Writes}
use Rattle.clap.specs.{Words.IsAmong, Words.Kinds, Words.Text, Words.kind_of, declared.error.Error.Error}
use Rattle.laws.{specs.Sessions.PlaysAll, proofs.Statuses.of_stop}
use Rattle.player.specs.{CommandLine.faults_given, Session.AsksClap, Session.Explains, Session.Filings, Session.filings, Session.status_after}
use Rattle.player.specs.declared.stop.Stop.{Stop}
use Rattle.player.specs.Session.{Ran}
use Rattle.laws.proofs.traces.sessions.ends_of_a_session.Goals as goal

all_played : (done : Unit {0}) (words : List Text) (i o : Passage) (f : Filings) → Ran (Ok done) words i o f → PlaysAll words i o
all_played done words i o f ran =
    let plays = ran.ends.plays in
    record {
      given = ran.device.given;
      told = ran.device.told;
      geo = ran.geo;
      numbers = ran.device.numbers;
      text = plays.text;
      end = plays.end;
      input_unfailed = plays.input_unfailed;
      output_unfailed = plays.output_unfailed;
    }

played : (ending : Result (Unit {0}) Stop) (words : List Text) (i o : Passage) (f : Filings) → 0 ≡ status_after ending → Explains ending words i o f
    → faults_given words ≡ [] → PlaysAll words i o
played (Ok done) words i o f status (inl it) none = all_played done words i o f it
played (Ok done) words i o f status (inr it) none = absurd (subst (λ (k : Kinds). IsAmong (kind_of it.error) k) none it.asked)
played (Err why) words i o f status because none = let s = of_stop why in absurd (omega (arith, status, s.some))

helped : (ending : Result (Unit {0}) Stop) (words : List Text) (i o : Passage) (f : Filings) → 0 ≡ status_after ending → Explains ending words i o f
    → ¬ (faults_given words ≡ [])
    → (k : Error) × IsAmong (kind_of k) (faults_given words) × AsksClap (kind_of k) × (i.after ≡ i.before) × (t : List ℕ) × Writes Whole t o
helped (Ok done) words i o f status (inl it) some = absurd (some it.device.accepted)
helped (Ok done) words i o f status (inr it) some = (it.error, it.asked, it.is_request, it.unread, it.out.0, it.out.1.1)
helped (Err why) words i o f status because some = let s = of_stop why in absurd (omega (arith, status, s.some))

pub returns-clause-played : goal.returns-clause-played
returns-clause-played c words i o e (n, r, b, x, y, h) none = played h.ending words i o (filings n r b x y) h.status_is h.why none

pub returns-clause-stopped : goal.returns-clause-stopped
returns-clause-stopped c f words i o e (n, r, b, x, y, why, told) =
    (why.device.given, why.geo, why.device.told, why.device.numbers, why.device.accepted, why.ends.0, told)
