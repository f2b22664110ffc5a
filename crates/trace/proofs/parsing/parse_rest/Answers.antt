use Rattle.std.proofs.{Common.◌∙◌, Common.inr, Common.sym}
use Rattle.trace.{specs.declared.fault.TraceFaultKind.TheVariants.Fields, specs.Stored.drafted, proofs.Meanings.line_is}
use Rattle.trace.proofs.Checks.{first_other, first_refused, one_more_command, refuses_fields, same_first, states_fault}
use Rattle.trace.proofs.parsing.parse_rest.Goals as goal

pub returns-in-Fields-clause-fault : goal.returns-in-Fields-clause-fault
returns-in-Fields-clause-fault c =
    let other = c.in-Fields.ensures in
    let refused = refuses_fields c.args.geometry.now other.fields other.count in
    rw (c.fault.ensures, c.next_line-line.ensures, line_is c.args.text.now c.records.draft)
    (states_fault c.args.text.now c.args.geometry.now (drafted c.args.text.now c.records.draft) other.fields _ _ Fields c.records.invariant.so_far
    other.first (inr refused))

pub returns-in-Fields-clause-first : goal.returns-in-Fields-clause-first
returns-in-Fields-clause-first c =
    let other = c.in-Fields.ensures in
    rw (c.fault.ensures, c.next_line-line.ensures, line_is c.args.text.now c.records.draft)
    (first_other c.args.text.now c.args.geometry.now (drafted c.args.text.now c.records.draft) other.fields _ _ c.records.invariant.so_far other.first
    other.count)

pub returns-in-Err-add_read-clause-fault : goal.returns-in-Err-add_read-clause-fault
returns-in-Err-add_read-clause-fault c =
    let next = c.in-Record.ensures in
    let taken = rw c.in-Ok-true.field-0-test at c.in-Ok-true.ensures.takes in
    let same = same_first _ _ _ _ _ taken (c.records.invariant.left ∙ next.first) in
    rw (c.fault-in-Err-add_read.ensures, c.next_line-line.ensures, line_is c.args.text.now c.records.draft)
    (states_fault c.args.text.now c.args.geometry.now (drafted c.args.text.now c.records.draft) next.fields _ _ _ c.records.invariant.so_far
    next.first (rw (sym same.0 ∙ c.row_of.ensures) c.in-Err-add_read.ensures.refused))

pub records-preserved : goal.records-preserved
records-preserved c =
    let next = c.in-Record.ensures in
    let taken = rw c.in-Ok-true.field-0-test at c.in-Ok-true.ensures.takes in
    let same = same_first _ _ _ _ _ taken (c.records.invariant.left ∙ next.first) in
    record {
      place = next.high;
      draft = c.in_default.ensures.draft;
      so_far =
          one_more_command c.args.text.now c.args.geometry.now (drafted c.args.text.now c.records.draft)
          (drafted c.args.text.now c.add_read.new.draft) next.fields _ _ c.records.invariant.so_far next.first
          (rw (sym same.0 ∙ c.row_of.ensures) c.in_default.ensures.added);
      reading = c.in-Ok-true.ensures.reading c.in-Ok-true.field-0-test;
      left = same.1;
    }

pub returns-in-Err-add_read-clause-first : goal.returns-in-Err-add_read-clause-first
returns-in-Err-add_read-clause-first c =
    let next = c.in-Record.ensures in
    let taken = rw c.in-Ok-true.field-0-test at c.in-Ok-true.ensures.takes in
    let same = same_first _ _ _ _ _ taken (c.records.invariant.left ∙ next.first) in
    rw (c.fault-in-Err-add_read.ensures, c.next_line-line.ensures, line_is c.args.text.now c.records.draft)
    (first_refused c.args.text.now c.args.geometry.now (drafted c.args.text.now c.records.draft) next.fields _ _ _ c.records.invariant.so_far
    next.first (rw (sym same.0 ∙ c.row_of.ensures) c.in-Err-add_read.ensures.refused))
