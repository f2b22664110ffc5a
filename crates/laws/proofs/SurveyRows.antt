-- The rows of a survey.
use Rattle.std.proofs.{Common.◌≡◌, Common.length, Common.sym, Common.◌∙◌, lemmas.List.length-map, lemmas.List.FromFn.length-map-range_with_len}
use Rattle.broom.specs.Survey.{Survey, closed_of, counts_of, is_closed, live_pages}
use Rattle.geometry.specs.declared.words.PinWord.{PinWord}

-- there are as many counts as blocks
pub as_long : (s : Survey) → length (counts_of s) ≡ length (closed_of s.states)
as_long s = length-map-range_with_len (live_pages s) 0 (length s.states) ∙ sym (length-map s.states (λ (p : PinWord). is_closed p.phase))
