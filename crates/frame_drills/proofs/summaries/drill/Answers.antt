use Rattle.std.proofs.Common.{◌≡◌, ◌+◌, true, inl, inr, length, map, refl, sym, ap, ◌∙◌, arith}
use Rattle.std.specs.List.{sum_by}
use Rattle.std.proofs.lemmas.List.FromFn.{sum_by-map-range_with_len_more}
use Rattle.frame_drills.specs.Captures.{first_capture, second_capture}
use Rattle.frame_drills.specs.Draws.{drawn}
use Rattle.frame_drills.specs.Summaries.{numbers}
use Rattle.frame_drills.proofs.Back.{back_or_not, is_back, tells_back, where_back, where_lost}
use Rattle.frame_drills.proofs.Noisy.{first_comes_back}
use Rattle.frame_drills.proofs.Totals.{count_all, octets_more, octets_of, octets_same}
use Rattle.frame_drills.proofs.summaries.drill.Goals as goal

pub loop-number-preserved : goal.loop-number-preserved
loop-number-preserved c =
    let number = c.loop-number.number in
    let before = c.loop-number.invariant in
    let more = c.in_ok-drill_frame.ensures in
    record {
      count = more.count ∙ before.count;
      heard = more.heard ∙ ap (λ n. n + 1) before.heard;
      octets =
          elim (back_or_not (second_capture number) (drawn number)) [
            | inl back ↦
                more.back back ∙ ap (λ n. n + length (drawn number).psdu) before.octets ∙ sym (octets_more (is_back second_capture) number (where_back second_capture number back))
            | inr lost ↦ more.lost lost ∙ before.octets ∙ sym (octets_same (is_back second_capture) number (where_lost second_capture number lost))
          ];
      few_octets = omega (arith, more.few_octets, before.few_octets);
      samples =
          more.samples ∙ ap (λ n. n + length (first_capture number)) before.samples
          ∙ sym (sum_by-map-range_with_len_more length first_capture 0 number number (omega arith));
      few_samples = omega (arith, more.few_samples, before.few_samples);
      counted = omega (arith, more.counted, before.counted);
    }

pub returns-clause-summary : goal.returns-clause-summary
returns-clause-summary c =
    let all : c.loop-number.number ≡ c.args.count = omega arith in
    let sums = c.loop-number.invariant in
    record {
      is_first = λ _. true;
      is_second = is_back second_capture;
      first = λ number below. (λ is. first_comes_back number, λ back. refl);
      second = tells_back second_capture c.args.count;
      count_is = sums.count;
      heard = sums.heard ∙ all ∙ sym (count_all c.args.count);
      octets = sums.octets ∙ ap (octets_of (is_back second_capture)) all;
      samples = sums.samples ∙ ap (λ count. sum_by length (map first_capture (numbers count))) all;
    }
