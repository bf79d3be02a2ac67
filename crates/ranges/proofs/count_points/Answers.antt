use Rattle.std.proofs.Common.{◌≡◌, ℕ, ◌<◌, ◌≤◌, false, sym, ap, ◌∙◌, subst, arith}
use Rattle.labels.specs.declared.code_points.CodePoints.{CodePoints}
use Rattle.ranges.specs.Below.{point_below}
use Rattle.ranges.specs.Meaning.{holds_point}
use Rattle.ranges.specs.Runs.{Run}
use Rattle.ranges.proofs.Counts.{counted_none, counted_le, counted_steady, counted_run}
use Rattle.ranges.proofs.count_points.Goals as goal

-- a run that the walk gives is one of the algebra that it was begun with
run_of : (a' a : CodePoints) (p' p from first last : ℕ) → a' ≡ a → p' ≡ p → Run (holds_point a' p') from first last → Run (holds_point a p) from first last
run_of a' a p' p from first last same_a same_p run =
    subst (λ q. Run (holds_point a q) from first last) same_p (subst (λ b. Run (holds_point b p') from first last) same_a run)

run_below : (a : CodePoints) (p from first last : ℕ) → Run (holds_point a p) from first last → last < 1114112
run_below a p from first last run = point_below a p last (run.inside last run.order (omega arith))

pub loop-range-init : goal.loop-range-init
loop-range-init c =
    let begun = c.into_iter-range-iterator.ensures.into_iter_gives in
    let start : c.into_iter-range-iterator.result.from ≡ 0 = ap (λ s. s.from) begun ∙ c.new-range-items.ensures.start in
    record {
      can = tt;
      ends = tt;
      algebra = ap (λ s. s.of.now) begun ∙ c.new-range-items.ensures.algebra;
      predicate = ap (λ s. s.p) begun ∙ c.new-range-items.ensures.predicate;
      within = omega (arith, start);
      counts = rw start (sym (counted_none (holds_point c.args.a.now c.args.p)));
    }

pub overflow_add-total-in-loop-range : goal.overflow_add-total-in-loop-range
overflow_add-total-in-loop-range c =
    let inv = c.loop-range.invariant in
    let run = run_of _ _ _ _ _ _ _ inv.algebra inv.predicate c.in-Some.ensures.steps.0.0 in
    omega (arith, run.low, run.order, run_below c.args.a.now c.args.p _ _ _ run, counted_le _ _ _ inv.counts)

pub loop-range-preserved : goal.loop-range-preserved
loop-range-preserved c =
    let inv = c.loop-range.invariant in
    let step = c.in-Some.ensures.steps in
    let run = run_of _ _ _ _ _ _ _ inv.algebra inv.predicate step.0.0 in
    record {
      can = tt;
      ends = tt;
      algebra = step.1 ∙ inv.algebra;
      predicate = step.2 ∙ inv.predicate;
      within = omega (arith, step.0.1, run_below c.args.a.now c.args.p _ _ _ run);
      counts = rw step.0.1 (omega (arith, inv.counts, counted_run (holds_point c.args.a.now c.args.p) _ _ _ run));
    }

pub returns : goal.returns
returns c =
    let inv = c.loop-range.invariant in
    let it = c.loop-range.range-iterator in
    let a = c.args.a.now in
    let none = subst (λ q. (k : ℕ) → it.from ≤ k → holds_point a q k ≡ false) inv.predicate
    (subst (λ b. (k : ℕ) → it.from ≤ k → holds_point b it.p k ≡ false) inv.algebra c.in-None.ensures.steps.0) in
    omega (arith, inv.counts, counted_steady false (holds_point a c.args.p) it.from 1114112 inv.within (λ k g h. none k g))
