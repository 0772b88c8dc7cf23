use Rattle.std.proofs.Common.{◌≡◌, ◌+◌, ◌^◌, length, sym, ap, ◌∙◌, refl, arith}
use Rattle.std.proofs.lemmas.Int.{ints}
use Rattle.fixed_complex.specs.declared.Cx.{Cx}
use Rattle.fixed_complex.specs.Pairs.{IsWithin}
use Rattle.lane_kernels.specs.Kernels.{dot_of, product_of}
use Rattle.fixed_complex.specs.Samples.{sample_at}
use Rattle.fixed_complex.proofs.PairSizes.{within-conjugate, within-times}
use Rattle.fixed_complex.proofs.Pairs.{same_parts}
use Rattle.lane_kernels.proofs.Totals.{total-one}
use Rattle.lane_kernels.proofs.Wholes.{dot-total_re, dot-total_im}
use Rattle.lane_kernels.proofs.products.dot.Goals as goal
use Rattle.lane_kernels.proofs.products.dot.Goals.{After-mul}

-- the product at the loop's place, and how large it is
product-within : (c : After-mul) → IsWithin (2 ^ 31) c.mul.result
product-within c =
    let conjugated : IsWithin (2 ^ 15) c.conj.result = rw c.conj.ensures (within-conjugate (2 ^ 15) c.pair-in-loop-n.result c.pair-in-loop-n.ensures.within) in
    rw c.mul.ensures (within-times (2 ^ 15) (2 ^ 15) c.pair.result c.conj.result c.pair.ensures.within conjugated)

pub add-dot-requires-clause-b : goal.add-dot-requires-clause-b
add-dot-requires-clause-b c =
    let small = product-within c in
    record { re = omega arith; im = omega arith }

pub loop-n-preserved : goal.loop-n-preserved
loop-n-preserved c =
    let small = product-within (goal.at.loop-n-preserved c).After-mul in
    let n = c.loop-n.n in
    let product = rw (c.pair.ensures.value, c.conj.ensures, c.pair-in-loop-n.ensures.value) at c.mul.ensures in
    let sum_re = ap (λ (z : Cx). z.re) c.add-dot.ensures in
    let sum_im = ap (λ (z : Cx). z.im) c.add-dot.ensures in
    let product_re = ap (λ (z : Cx). z.re) product in
    let product_im = ap (λ (z : Cx). z.im) product in
    let one_re = total-one (λ k. (product_of (sample_at c.args.a.now k) (sample_at c.args.b.now k)).re) n (n + 1) refl in
    let one_im = total-one (λ k. (product_of (sample_at c.args.a.now k) (sample_at c.args.b.now k)).im) n (n + 1) refl in
    record {
      re = omega (arith, ints);
      im = omega (arith, ints);
      within = record { re = omega (arith, ints); im = omega (arith, ints) };
    }

pub returns-clause-value : goal.returns-clause-value
returns-clause-value c =
    let whole : c.loop-n.n ≡ length c.args.a.now = omega arith in
    let re = rw whole at c.loop-n.invariant.re in
    let im = rw whole at c.loop-n.invariant.im in
    same_parts c.loop-n.dot (dot_of c.args.a.now c.args.b.now)
    (re ∙ sym (dot-total_re c.args.a.now c.args.b.now c.requires.long))
    (im ∙ sym (dot-total_im c.args.a.now c.args.b.now c.requires.long))
