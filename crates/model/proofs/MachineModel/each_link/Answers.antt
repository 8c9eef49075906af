use native.Mathlib.Omega.{arith}
use mathlib.Core.Path.{◌≡◌, sym, ◌∙◌, ap}
use lib.ListN.{length}
use Rattle.lists.proofs.Tests.{is}
use Rattle.std.proofs.lemmas.Result.{err_from_is_err_and}
use Rattle.std.proofs.Common.{inl}
use Rattle.std.specs.declared.iter.Enumerate.{Enumerate}
use Rattle.model.specs.declared.Link.{Link}
use Rattle.model.specs.declared.LinkIter.{LinkIter}
use Rattle.model.specs.Model.{links_of}
use Rattle.model.specs.ModelCheck.{each_link}
use Rattle.model.proofs.Links.{left, names_in, first_name, checks_passed, checks_refused, checks_end, links_few}
use Rattle.model.proofs.MachineModel.each_link.Goals as goal

module _ (c : goal.After-into_iter-index-iterator) where
  given : c.into_iter-index-iterator.result ≡ c.enumerate-index-items.result
  given = c.into_iter-index-iterator.ensures.into_iter_gives

  all : left c.into_iter-index-iterator.result.iter ≡ links_of c.args.self.now.bytes.now
  all = ap (λ (e : Enumerate LinkIter). left e.iter) given ∙ (ap left c.enumerate-index-items.ensures.source ∙ c.links_in.ensures)

  none : c.into_iter-index-iterator.result.count ≡ 0
  none = ap (λ (e : Enumerate LinkIter). e.count) given ∙ c.enumerate-index-items.ensures.count

pub loop-index-init-derived : goal.loop-index-init-derived
loop-index-init-derived c =
    let few = links_few c.args.self.now.bytes.now in
    let e = ap (length {A = Link}) (all c) in
    ((tt, tt, inl (omega (arith, few, e, none c))), tt)

pub loop-index-init : goal.loop-index-init
loop-index-init c = record { within = rw (all c) (names_in _); rest = rw (all c, none c) }

pub link_check-requires : goal.link_check-requires
link_check-requires c =
    let first = first_name c.in-Some.ensures.steps.0 c.loop-index.invariant.within in
    omega (arith, first.0)

pub loop-index-preserved : goal.loop-index-preserved
loop-index-preserved c =
    let steps = c.in-Some.ensures.steps in
    record {
      within = (first_name steps.0 c.loop-index.invariant.within).1;
      rest =
          c.loop-index.invariant.rest
          ∙ rw steps.2 (checks_passed _ _ steps.0 _ (rw steps.1 at (is c.link_check.ensures c.in_ok-link_check.was)));
    }

pub returns-in_err-link_check : goal.returns-in_err-link_check
unfolding each_link
returns-in_err-link_check c =
    let p = err_from_is_err_and c.from_residual.result c.from_residual.ensures.1 in
    let steps = c.in-Some.ensures.steps in
    rw (p.1, p.2)
    (sym
    (c.loop-index.invariant.rest
    ∙ checks_refused _ _ steps.0 _ (rw steps.1 at (is c.link_check.ensures c.in_err-link_check.was))))

pub returns : goal.returns
unfolding each_link
returns c = sym (c.loop-index.invariant.rest ∙ checks_end _ _ _ c.in-None.ensures.steps.0.0)
