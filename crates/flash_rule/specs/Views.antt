-- What the fields of a view say, each on its own.
use Rattle.std.specs.Prelude.{ℕ, ◌+◌, ◌-◌, ◌<◌, ◌==◌, All, Bool, true, false, List, [], ◌∷◌, Option, None, Some, if◌then◌else◌}
use Rattle.geometry.specs.History.{Call, Write, WriteNew, Trim}
use Rattle.geometry.specs.Limits.{Numbers}
use Rattle.flash_rule.specs.declared.facts.Name.{Name}
use Rattle.flash_rule.specs.declared.facts.Name.TheVariants.{Pass, Broom}
use Rattle.flash_rule.specs.declared.facts.Role.{Role}
use Rattle.flash_rule.specs.declared.facts.Role.TheVariants.{Dealer, Player, Note, Gone}
use Rattle.flash_rule.specs.declared.facts.Owned.{Owned}
use Rattle.flash_rule.specs.declared.facts.Pin.{Pin}
use Rattle.flash_rule.specs.declared.facts.Pin.TheVariants.{Clear, Candidate, Accepted, Stray}
use Rattle.flash_rule.specs.declared.view.View.{View}

-- one or none, as a number
abbrev pub one_if : Bool → ℕ
one_if true = 1
one_if false = 0

-- a number for each view, added up
abbrev pub total : (View → ℕ) → List View → ℕ
total f [] = 0
total f (v ∷ vs) = f v + total f vs

-- whether a seat is that of a pass
abbrev pub is_pass : Role → Bool
is_pass (Player (Pass t)) = true
is_pass (Player (Broom i)) = false
is_pass Dealer = false
is_pass Note = false
is_pass Gone = false

-- whether a seat is that of a broom
abbrev pub is_broom : Role → Bool
is_broom (Player (Pass t)) = false
is_broom (Player (Broom i)) = true
is_broom Dealer = false
is_broom Note = false
is_broom Gone = false

-- whether a seat is that of a pass or a broom
abbrev pub is_player : Role → Bool
is_player (Player n) = true
is_player Dealer = false
is_player Note = false
is_player Gone = false

-- a seat that still makes steps or may be joined
abbrev pub is_live_role : Role → Bool
is_live_role (Player n) = true
is_live_role Dealer = true
is_live_role Note = true
is_live_role Gone = false

-- a seat that may own blocks
abbrev pub may_own : Role → Bool
may_own (Player n) = true
may_own Dealer = true
may_own Note = false
may_own Gone = false

-- whether two names are equal
abbrev pub same_name : Name → Name → Bool
same_name (Pass t) (Pass u) = t == u
same_name (Pass t) (Broom j) = false
same_name (Broom i) (Pass u) = false
same_name (Broom i) (Broom j) = i == j

-- for how many passes a role counts: a pass for one, and the dealer for as many as it still has to deal
abbrev pub role_weight : ℕ → Role → ℕ → ℕ
role_weight hosts (Player (Pass t)) passes = 1
role_weight hosts (Player (Broom i)) passes = 0
role_weight hosts Dealer passes = hosts - passes
role_weight hosts Note passes = 0
role_weight hosts Gone passes = 0

-- for how many passes a seat counts
abbrev pub weight : Numbers → View → ℕ
weight z v = role_weight z.hosts v.role v.passes

-- whether a pin, accepted or stray, is counted at a block
abbrev pub pin_is_on : ℕ → Pin → Bool
pin_is_on b Clear = false
pin_is_on b (Candidate m value) = false
pin_is_on b (Accepted m value) = m.block == b
pin_is_on b (Stray c) = c == b

-- how many readers a seat is for a block: one if its pin is on it, and otherwise none
abbrev pub pins_on : ℕ → View → ℕ
pins_on b v = one_if (pin_is_on b v.pin)

-- the entry of a block among the owned ones
abbrev pub owned_at : ℕ → List Owned → Option Owned
owned_at b [] = None
owned_at b (o ∷ os) = if o.block == b then Some o else owned_at b os

-- the owned blocks without one
abbrev pub without : ℕ → List Owned → List Owned
without b [] = []
without b (o ∷ os) = if o.block == b then without b os else (o ∷ without b os)

-- the owned blocks with the entry of one block set
abbrev pub with_owned : Owned → List Owned → List Owned
with_owned o os = o ∷ without o.block os

-- the number of the pass that makes a call
abbrev pub caller : Call → ℕ
caller (Write pass s v) = pass
caller (WriteNew pass s v) = pass
caller (Trim pass s) = pass

-- each call is of a host: a pass with a number below the hosts
abbrev pub AreOfHosts : Numbers → List Call → Type 0
AreOfHosts z calls = All (λ c. caller c < z.hosts) calls

-- the calls of one pass, in order
abbrev pub calls_of : ℕ → List Call → List Call
calls_of t [] = []
calls_of t (c ∷ cs) = if caller c == t then (c ∷ calls_of t cs) else calls_of t cs

-- the numbers, added up
abbrev pub sum_of : List ℕ → ℕ
sum_of [] = 0
sum_of (x ∷ xs) = x + sum_of xs
