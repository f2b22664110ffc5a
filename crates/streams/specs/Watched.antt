-- A reader or a writer whose failed calls are counted.
use Rattle.std.specs.Prelude.{ℕ, ◌+◌, ◌%◌, ◌^◌, ◌==◌, ◌&&◌, not, List, length, Result, Ok, Err, if◌then◌else◌}
use Rattle.streams.specs.declared.watched.Watched.{Watched}

-- what is watched
abbrev pub inner_of : {T : Type 0} → Watched T → T
inner_of w = w.inner

-- how many of its calls failed, modulo 2 ^ 64
abbrev pub failures_of : {T : Type 0} → Watched T → ℕ
failures_of w = w.failures

-- one failure more
abbrev pub one_more : ℕ → ℕ
one_more count = (count + 1) % 2 ^ 64

-- the count after a call: an error of any kind is a failure
abbrev pub after_call : {T E : Type 0} → ℕ → Result T E → ℕ
after_call count (Ok _) = count
after_call count (Err _) = one_more count

-- the count after a write: an error is a failure, and so is a write of some bytes that takes none
abbrev pub after_write : {E : Type 0} → ℕ → List ℕ → Result ℕ E → ℕ
after_write count bytes (Ok taken) = if (taken == 0) && not (length bytes == 0) then one_more count else count
after_write count bytes (Err _) = one_more count
