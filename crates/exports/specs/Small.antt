-- What the laws of these definitions name: a small device, one page of it, a block, and the counts of a worn device.
use Rattle.std.specs.Prelude.{◌≡◌, ℕ, List, replicate}
use Rattle.geometry.specs.declared.geometry.Geometry.{Geometry}
use Rattle.geometry.specs.Geometry.{blocks_of, sectors_of, words_of}
use Rattle.geometry.specs.declared.words.Phase.{Phase}
use Rattle.geometry.specs.declared.words.PinWord.{PinWord}
use Rattle.exports.specs.declared.reports.CountsReport.{CountsReport}

-- a device of three blocks and two sectors, with one word in a page
pub record IsSmall (g : Geometry) : Type 0 where
  pub blocks : blocks_of g ≡ 3
  pub sectors : sectors_of g ≡ 2
  pub words : words_of g ≡ 1

-- a page of such a device
abbrev pub zeros : List ℕ
zeros = replicate 8 0

-- a block in this phase, with three pages written and two readers, after four erases
abbrev pub worn_block : Phase → PinWord
worn_block f = record { readers = 2; phase = f; written = 3; generation = 4 }

-- the counts of a worn device: so many spares, free blocks, victims, drained blocks and blocks that are being erased
abbrev pub worn : ℕ → ℕ → ℕ → ℕ → ℕ → CountsReport
worn spares free victims drained erasing = record {
  erases = 9;
  free = free;
  «open» = 3;
  closed = 4;
  victims = victims;
  drained = drained;
  erasing = erasing;
  retired = 5;
  spares = spares;
}
