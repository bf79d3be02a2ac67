use Rattle.std.proofs.Common.{◌≡◌, ◌&&◌, ◌||◌, eqb, ltb, length, sym, ap, ◌∙◌, arith, rules}
use Rattle.std.proofs.lemmas.Bool.{le-ltb, and_left}
use Rattle.bits.specs.Matrix.{pair}
use Rattle.reduction.specs.Drawn.{linked_at}
use Rattle.reduction.proofs.Rows.{placed_more}
use Rattle.reduction.proofs.writing.write_rows.Goals as goal

pub loop-i-init : goal.loop-i-init
loop-i-init c i j = c.requires i j ∙ sym (and_left (ltb i 0) _ (le-ltb i 0 (omega arith)))

pub keep_row-requires : goal.keep_row-requires
keep_row-requires c = record {
  listed = search rules;
  empty = λ j. c.loop-i.invariant c.loop-i.i j ∙ and_left (ltb c.loop-i.i c.loop-i.i) _ (le-ltb c.loop-i.i c.loop-i.i (omega arith));
}

pub loop-i-preserved : goal.loop-i-preserved
loop-i-preserved c i j =
    placed_more (λ i. ltb j (length c.args.staying.now) && (eqb i j || linked_at (pair c.args.rows.now.words) c.args.staying.now i j)) (λ i. pair c.loop-i.into.words i j) (λ i. pair c.keep_row.new.into.words i j) c.loop-i.i
    (λ i. c.loop-i.invariant i j) (c.keep_row.ensures.here j) (λ i ne. c.keep_row.ensures.others i j ne) i

pub returns : goal.returns
returns c i j =
    let n = length c.args.staying.now in
    let e : c.loop-i.i ≡ length c.args.staying.now = omega arith in
    c.loop-i.invariant i j ∙ ap (λ m. ltb i m && (ltb j n && (eqb i j || linked_at (pair c.args.rows.now.words) c.args.staying.now i j))) e
