-- A command that is known to come next, though not which block is free then.
use Rattle.std.proofs.Common.{ℕ, List, Option, arith}
use Rattle.std.proofs.Math.Logic.{∥∥₁_elim}
use Rattle.std.proofs.Props.{props}
use Rattle.geometry.specs.declared.page_addr.PageAddr.{PageAddr}
use Rattle.durable.specs.declared.command.Command.{Command}
use Rattle.durable.specs.declared.command.Command.TheVariants.{Program, Copy, Erase, Refused}
use Rattle.durable.specs.declared.next_pages.NextPages.{NextPages}
use Rattle.durable.specs.Next.{IsNextFor}
use Rattle.durable.proofs.Counts.{none_counted}
use Rattle.durable.proofs.Opened.{some_free, some_free_beside}

pub known : (blocks pages : ℕ) (map : List (Option PageAddr)) (next : NextPages) (left number : ℕ) (m : Command)
    → ∥ IsNextFor blocks pages map next left number m ∥₁ → IsNextFor blocks pages map next left number m
known blocks pages map next left number (Program at n) is = (
  ∥∥₁_elim is (Prim.hlevel props) (λ x. x.0),
  ∥∥₁_elim is (Prim.hlevel props) (λ x. x.1),
  ∥∥₁_elim is (Prim.hlevel props) (λ x. x.2),
  some_free blocks map next (λ live. ∥∥₁_elim is (Prim.hlevel props) (λ x.
      absurd (omega (arith, live x.3.0 x.3.1 x.3.2, none_counted x.3.0 map x.3.3)))),
)
known blocks pages map next left number (Copy k from to) is = ∥∥₁_elim is (Prim.hlevel props) (λ x. x)
known blocks pages map next left number (Erase b) is = (
  ∥∥₁_elim is (Prim.hlevel props) (λ x. x.0),
  ∥∥₁_elim is (Prim.hlevel props) (λ x. x.1),
  ∥∥₁_elim is (Prim.hlevel props) (λ x. x.2),
  ∥∥₁_elim is (Prim.hlevel props) (λ x. x.3),
  ∥∥₁_elim is (Prim.hlevel props) (λ x. x.4),
  λ at opened. some_free_beside blocks map next b (λ live. ∥∥₁_elim is (Prim.hlevel props) (λ x.
      let free = x.5 at opened in absurd (omega (arith, live free.0 free.1 free.2 free.3, none_counted free.0 map free.4)))),
)
known blocks pages map next left number Refused is = tt
