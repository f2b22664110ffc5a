-- The views that the dealer deals, and the rule in the form of the table.
use Rattle.std.specs.Prelude.{ℕ, zero, suc, ◌+◌, ◌-◌, ◌*◌, false, true, List, [], ◌∷◌, ◌++◌, None, Some, replicate}
use Rattle.atomic_table.specs.Table.{State}
use Rattle.geometry.specs.Limits.{Numbers}
use Rattle.geometry.specs.Words.{phase_bits}
use Rattle.geometry.specs.declared.words.Phase.TheVariants.{Free, Open}
use Rattle.flash_rule.specs.declared.facts.Name.{Name}
use Rattle.flash_rule.specs.declared.facts.Name.TheVariants.{Pass, Broom}
use Rattle.flash_rule.specs.declared.facts.Role.{Role}
use Rattle.flash_rule.specs.declared.facts.Role.TheVariants.{Dealer, Player, Note, Gone}
use Rattle.flash_rule.specs.declared.facts.Owned.{Owned}
use Rattle.flash_rule.specs.declared.facts.Pin.TheVariants.{Clear}
use Rattle.flash_rule.specs.declared.carried.Carried.{Carried}
use Rattle.flash_rule.specs.declared.view.View.{View}
use Rattle.flash_rule.specs.Views.{without}
use Rattle.flash_rule.specs.World.{World, Fits, blank_word}
use Rattle.flash_rule.specs.Rule.{Lawful}

-- the rule: there is a state that the words fit, and it is lawful with all seats
abbrev pub Ruled : Numbers → State (Unit {0}) View → Type 0
Ruled z s = (g : World) × Fits z g.map g.pins g.pages s.words × Lawful z g s.views

-- a seat in a role that knows nothing yet
abbrev pub newcomer : Numbers → Role → View
newcomer z role =
    record {
      role = role;
      numbers = z;
      seen = [];
      mine = [];
      looks = 0;
      pin = Clear;
      known = [];
      taken = 0;
      denied = [];
      owns = [];
      work = None;
      programs = [];
      erases = [];
      cleared = 0;
      source = None;
      inspection = None;
      wiped = 0;
      loaded = [];
      named = [];
      lost = [];
      moves = 0;
      drains = [];
      ceded = [];
      busy = [];
      stale = [];
      passes = 0;
      brooms = 0;
      whole = false;
      guest = None;
      copy = None;
      older = None;
    }

-- an open block with nothing written
abbrev pub spare : ℕ → Owned
spare b = record { block = b; phase = Open; generation = 0; written = 0 }

-- this many of them, from one on
abbrev pub spares : ℕ → ℕ → List Owned
spares zero from = []
spares (suc n) from = spare from ∷ spares n (from + 1)

-- the dealer owns the brooms' spares, which are the last blocks, until it deals them
abbrev pub dealer : Numbers → View
dealer z = record (newcomer z Dealer) { owns = spares z.brooms (z.blocks - z.brooms) }

-- a pass has the next number
abbrev pub new_pass : View → View
new_pass v = record (newcomer v.numbers (Player (Pass v.passes))) { known = replicate v.numbers.blocks 0; whole = true }

-- the dealer has dealt one pass more
abbrev pub dealt_pass : View → View
dealt_pass v = record v { passes = v.passes + 1 }

-- the first of the spares that the dealer still owns
abbrev pub next_spare : View → ℕ
next_spare v = v.numbers.blocks - v.numbers.brooms + v.brooms

-- a broom has the next number, and that block as its spare
abbrev pub new_broom : View → View
new_broom v = record (newcomer v.numbers (Player (Broom v.brooms))) { owns = spares 1 (next_spare v); whole = true }

-- the dealer has dealt one broom more, and no longer owns its spare
abbrev pub dealt_broom : View → View
dealt_broom v = record v { brooms = v.brooms + 1; owns = without (next_spare v) v.owns }

-- the words at the start: no sector is mapped, all blocks are free but the spares, which are open, and all pages are all ones
abbrev pub opening_words : Numbers → List ℕ
opening_words z =
    (replicate z.sectors 0 ++ (replicate (z.blocks - z.brooms) (phase_bits Free) ++ replicate z.brooms (phase_bits Open)))
    ++ replicate (z.blocks * z.pages * (z.words + 1)) blank_word

-- the player of a role; used only for a role that has one
abbrev pub name_of : Role → Name
name_of (Player n) = n
name_of Dealer = Pass 0
name_of Note = Pass 0
name_of Gone = Pass 0

-- copies of a player's lists
abbrev pub carried : View → Carried
carried v = record { of = name_of v.role; seen = v.seen; programs = v.programs; erases = v.erases }

-- LEND. A player's badge goes on a note that carries copies of its lists
abbrev pub lender : View → View
lender v = record v { whole = false }

-- the note that goes: it has the badge, and copies of the lists
abbrev pub lent_note : View → View
lent_note v = record (newcomer v.numbers Note) { guest = Some (name_of v.role); copy = Some (carried v) }

-- TAKE IN. A player that has its own badge takes in a note with the badge and copies of another one
abbrev pub host_of : View → View → View
host_of v note = record v { guest = note.guest; copy = note.copy; older = v.copy }

-- GIVE BACK. The other's badge goes on a note that carries copies of this player's lists
abbrev pub giver : View → View
giver v = record v { guest = None }

-- the note that goes back: it has the other's badge, and copies of this player's lists
abbrev pub given_note : View → View
given_note v = record (newcomer v.numbers Note) { guest = v.guest; copy = Some (carried v) }

-- COME HOME. A player takes in its own badge with copies of the other's lists
abbrev pub home : View → View → View
home v note = record v { whole = true; copy = note.copy; older = v.copy }

-- what is left of a seat that was joined into another
abbrev pub gone : View
gone = newcomer (record { luns = 0; blocks = 0; pages = 0; words = 0; sectors = 0; endurance = 0; hosts = 0; brooms = 0 }) Gone
