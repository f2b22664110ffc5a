use Rattle.std.proofs.Common.{List, ℕ, Result, Ok, Err, subst}
use Rattle.geometry.proofs.Histories.{Begins-refl}
use Rattle.answers.specs.{Streams.Passage, Streams.WritesOut, Streams.over, declared.delivery.OutputFailed.OutputFailed}
use Rattle.player.specs.Telling.{IsTold}
use Rattle.player.proofs.telling.tell_text.Goals as goal

-- a text that was written out, or of which a beginning was
told : (text : List ℕ) (errors : Passage) (r : Result (Unit {0}) OutputFailed) → WritesOut text errors r → IsTold text errors
told text errors (Ok _) (unfailed, sent) = record { part = record { sent = text; out = sent; beginning = Begins-refl text }; whole = λ same. sent }
told text errors (Err _) (failed, part) = record { part = part; whole = λ same. absurd (failed same) }

pub returns : goal.returns
returns g c =
    let errors = over g.E.Write.contents c.args.errors.now c.send.new.writer in
    subst (λ (text : List ℕ). IsTold text errors) c.as_bytes.ensures.value (told c.as_bytes.result.now errors c.send.result c.send.ensures)
