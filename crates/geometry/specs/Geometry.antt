-- The numbers of a `Geometry`, which other crates' clauses name by these functions.
use Rattle.std.specs.Prelude.{ℕ, ◌*◌, ◌/◌}
use Rattle.geometry.specs.{declared.geometry.DeviceNumbers.DeviceNumbers, declared.geometry.Geometry.Geometry, Limits.numbers, Limits.Numbers}

-- how many LUNs a device has
abbrev pub luns_of : Geometry → ℕ
luns_of g = g.luns

-- how many blocks, over all LUNs
abbrev pub blocks_of : Geometry → ℕ
blocks_of g = g.blocks

-- how many pages a block has
abbrev pub pages_of : Geometry → ℕ
pages_of g = g.pages

-- how many 64-bit words a page has
abbrev pub words_of : Geometry → ℕ
words_of g = g.words

-- how many sectors a device has
abbrev pub sectors_of : Geometry → ℕ
sectors_of g = g.sectors

-- how many times a block may be erased; the last of these erases fails
abbrev pub endurance_of : Geometry → ℕ
endurance_of g = g.endurance

-- how many passes a device has: one for each thread that reads and writes, and none if there is only one thread
abbrev pub hosts_of : Geometry → ℕ
hosts_of g = g.hosts

-- how many brooms a device has: one for each thread that collects
abbrev pub brooms_of : Geometry → ℕ
brooms_of g = g.brooms

-- all eight numbers of a device
abbrev pub numbers_of : Geometry → Numbers
numbers_of g = record {
  luns = g.luns;
  blocks = g.blocks;
  pages = g.pages;
  words = g.words;
  sectors = g.sectors;
  endurance = g.endurance;
  hosts = g.hosts;
  brooms = g.brooms;
}

-- how many bytes a page has
abbrev pub page_bytes_of : Geometry → ℕ
page_bytes_of g = 8 * g.words

-- the LUN of a block: the blocks are divided among the LUNs in equal runs
abbrev pub lun_of : Geometry → ℕ → ℕ
lun_of g block = block / (g.blocks / g.luns)

-- the numbers as a call passes them, one by one
abbrev pub numbers_in : DeviceNumbers → Numbers
numbers_in n = numbers n.luns n.blocks n.pages n.words n.sectors n.endurance n.hosts n.brooms
