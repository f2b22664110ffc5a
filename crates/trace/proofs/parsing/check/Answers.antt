use Rattle.std.proofs.{Common.sym, Common.arith, lemmas.Result.err_from_is_err_and}
use Rattle.trace.proofs.Checks.{accepts, refuses_op, refuses_page, refuses_sector, refuses_worker}
use Rattle.trace.proofs.Data.{few_digits}
use Rattle.trace.proofs.parsing.check.Goals as goal

pub returns-in_err-worker-clause-refused : goal.returns-in_err-worker-clause-refused
returns-in_err-worker-clause-refused c =
    let p = err_from_is_err_and c.from_residual.result c.from_residual.ensures.1 in
    let worker = sym (rw c.workers.ensures.value at c.in_err-worker.ensures.value) in
    rw (p.1, p.2) (refuses_worker c.args.geometry.now _ _ _ _ _ worker)

pub returns-in_err-op-clause-refused : goal.returns-in_err-op-clause-refused
returns-in_err-op-clause-refused c =
    let p = err_from_is_err_and c.from_residual-in_err-op.result c.from_residual-in_err-op.ensures.1 in
    let worker = sym (rw c.workers.ensures.value at c.in_ok-worker.ensures.value) in
    let op = sym (c.in_err-op.ensures) in
    rw (p.1, p.2) (refuses_op c.args.geometry.now _ _ _ _ _ worker _ op)

pub returns-in_err-sector-clause-refused : goal.returns-in_err-sector-clause-refused
returns-in_err-sector-clause-refused c =
    let p = err_from_is_err_and c.from_residual-in_err-sector.result c.from_residual-in_err-sector.ensures.1 in
    let worker = sym (rw c.workers.ensures.value at c.in_ok-worker.ensures.value) in
    let op = sym (c.in_ok-op.ensures) in
    let sector = sym (rw c.sectors.ensures.value at c.in_err-sector.ensures.value) in
    rw (p.1, p.2) (refuses_sector c.args.geometry.now _ _ _ _ _ worker _ op _ sector)

pub returns-in_err-check_digits-clause-refused : goal.returns-in_err-check_digits-clause-refused
returns-in_err-check_digits-clause-refused c =
    let p = err_from_is_err_and c.from_residual-in_err-check_digits.result c.from_residual-in_err-check_digits.ensures.1 in
    let worker = sym (rw c.workers.ensures.value at c.in_ok-worker.ensures.value) in
    let op = sym (c.in_ok-op.ensures) in
    let sector = sym (rw c.sectors.ensures.value at c.in_ok-sector.ensures.value) in
    let refused = rw c.page_bytes.ensures.value at c.in_err-check_digits.ensures.refused in
    rw (p.1, p.2) (refuses_page c.args.geometry.now _ _ _ _ _ worker _ op _ sector _ refused)

pub returns-clause-checked : goal.returns-clause-checked
returns-clause-checked c =
    let worker = sym (rw c.workers.ensures.value at c.in_ok-worker.ensures.value) in
    let op = sym (c.in_ok-op.ensures) in
    let sector = sym (rw c.sectors.ensures.value at c.in_ok-sector.ensures.value) in
    let made = rw c.page_bytes.ensures.value at c.in_ok-check_digits.ensures.made in
    let few = few_digits _ c.in_ok-op.op _ made.fits in
    record {
      is = accepts c.args.geometry.now _ _ _ _ _ worker _ op _ sector _ made.is;
      fits = made.fits;
      sector = omega (arith, c.in_ok-sector.ensures.below, c.sectors.ensures.high);
      few = omega (arith, few, c.page_bytes.ensures.small, c.page_bytes.ensures.value);
    }
