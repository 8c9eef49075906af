use lib.ListN.{length}
use mathlib.Core.Path.{◌∙◌, sym}
use borrow.Author.Rules.{rules}
use Rattle.std.proofs.lemmas.Result.{err_from_is_err_and}
use Rattle.writer.proofs.Answers.{may_put, refused_all, written_all, reads, rewrites}
use Rattle.writer.proofs.write_job.Goals as goal

pub returns-in_err-write_check : goal.returns-in_err-write_check
returns-in_err-write_check c =
    let p = err_from_is_err_and c.from_residual.result c.from_residual.ensures.1 in
    let q = refused_all c.args.k.now c.args.poses.now c.args.cone c.args.tol c.args.out.now _ (sym c.write_check.ensures.checked ∙ c.in_err-write_check.was) in
    let fit-chain = c.chain_fits.ensures in record { answer = rw (p.1, p.2) q.0; lent = q.1; read = reads c.args.k.now c.args.poses.now c.args.cone c.args.tol (length c.args.out.now) fit-chain (λ e. c.write_check.ensures.fit (c.write_check.ensures.checked ∙ e)) (search rules) (search rules) (search rules); again = rewrites c.args.k.now c.args.poses.now c.args.cone c.args.tol (length c.args.out.now) fit-chain (λ e. c.write_check.ensures.fit (c.write_check.ensures.checked ∙ e)) (search rules) (search rules) (search rules) }

pub put_job-requires : goal.put_job-requires
put_job-requires c =
    may_put c.args.k.now c.args.poses.now c.args.cone c.args.tol _ (sym c.write_check.ensures.checked ∙ c.in_ok-write_check.was)

pub returns : goal.returns
returns c =
    let q = written_all c.args.k.now c.args.poses.now c.args.cone c.args.tol c.args.out.now _ _ (sym c.write_check.ensures.checked ∙ c.in_ok-write_check.was) (c.put_job.ensures.end, c.put_job.ensures.lent) in
    let fit-tol = c.well_formed.1.1.1.0 in
    let fit-chain = c.chain_fits.ensures in record { answer = q.0; lent = q.1; read = reads c.args.k.now c.args.poses.now c.args.cone c.args.tol (length c.args.out.now) fit-chain (λ e. c.write_check.ensures.fit (c.write_check.ensures.checked ∙ e)) (search rules) (search rules) (search (rules, fit-tol)); again = rewrites c.args.k.now c.args.poses.now c.args.cone c.args.tol (length c.args.out.now) fit-chain (λ e. c.write_check.ensures.fit (c.write_check.ensures.checked ∙ e)) (search rules) (search rules) (search (rules, fit-tol)) }
