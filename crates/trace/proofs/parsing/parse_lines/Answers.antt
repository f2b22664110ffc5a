use Rattle.std.proofs.Common.{inr}
use Rattle.trace.{specs.declared.fault.TraceFaultKind.TheVariants.Fields, specs.Stored.drafted, proofs.Meanings.line_is}
use Rattle.trace.proofs.Checks.{first_other, first_refused, refuses_fields, states_fault}
use Rattle.trace.proofs.parsing.parse_lines.Goals as goal

pub returns-in-Fields-clause-fault : goal.returns-in-Fields-clause-fault
returns-in-Fields-clause-fault c =
    let other = c.in-Fields.ensures in
    let refused = refuses_fields c.args.geometry.now other.fields other.count in
    rw (c.fault.ensures, c.next_line-line.ensures, line_is c.args.text.now c.add_usual_lines.new.draft)
    (states_fault c.args.text.now c.args.geometry.now
    (drafted c.args.text.now c.add_usual_lines.new.draft) other.fields _ _ Fields c.in-Ok.ensures.so_far other.first (inr refused))

pub returns-in-Fields-clause-first : goal.returns-in-Fields-clause-first
returns-in-Fields-clause-first c =
    let other = c.in-Fields.ensures in
    rw (c.fault.ensures, c.next_line-line.ensures, line_is c.args.text.now c.add_usual_lines.new.draft)
    (first_other c.args.text.now c.args.geometry.now (drafted c.args.text.now c.add_usual_lines.new.draft) other.fields _ _ c.in-Ok.ensures.so_far
    other.first other.count)

pub returns-in-Err-clause-fault : goal.returns-in-Err-clause-fault
returns-in-Err-clause-fault c =
    let next = c.in-Record-default-Some.ensures in
    let told = rw c.in-Record-default-Some.field-1-is at next.told in
    rw (c.fault-in-Err.ensures, c.next_line-line.ensures, line_is c.args.text.now c.add_usual_lines.new.draft)
    (states_fault c.args.text.now c.args.geometry.now (drafted c.args.text.now c.add_usual_lines.new.draft) next.fields _ _ _ c.in-Ok.ensures.so_far
    next.first (rw told c.in-Err.ensures.refused))

pub returns-in-Err-clause-first : goal.returns-in-Err-clause-first
returns-in-Err-clause-first c =
    let next = c.in-Record-default-Some.ensures in
    let told = rw c.in-Record-default-Some.field-1-is at next.told in
    rw (c.fault-in-Err.ensures, c.next_line-line.ensures, line_is c.args.text.now c.add_usual_lines.new.draft)
    (first_refused c.args.text.now c.args.geometry.now (drafted c.args.text.now c.add_usual_lines.new.draft) next.fields _ _ _ c.in-Ok.ensures.so_far
    next.first (rw told c.in-Err.ensures.refused))
