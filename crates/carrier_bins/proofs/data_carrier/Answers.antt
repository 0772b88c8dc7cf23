use Rattle.std.proofs.Common.{◌≤◌, arith}
use Rattle.std.proofs.lemmas.Int.{ints}
use Rattle.carrier_bins.proofs.Tables.{carrier-in-run, IsRun-26, IsRun-25, IsRun-24, IsRun-23, IsRun-22, IsRun-21}
use Rattle.carrier_bins.proofs.data_carrier.Goals.{in_default-via-then-k-lt0, in_default-via-else-k-lt0+else-k-lt5+else-k-lt18+else-k-lt24+else-k-lt30+else-k-lt43}
use Rattle.carrier_bins.proofs.data_carrier.Goals as goal

pub returns-in-0-to-4 : goal.returns-in-0-to-4
returns-in-0-to-4 c = record { carrier = omega (arith, ints, carrier-in-run 0 26 5 c.args.k IsRun-26 (omega (arith, ints)) (omega (arith, ints))) }

pub returns-in-5-to-17 : goal.returns-in-5-to-17
returns-in-5-to-17 c = record { carrier = omega (arith, ints, carrier-in-run 5 25 13 c.args.k IsRun-25 (omega (arith, ints)) (omega (arith, ints))) }

pub returns-in-18-to-23 : goal.returns-in-18-to-23
returns-in-18-to-23 c = record { carrier = omega (arith, ints, carrier-in-run 18 24 6 c.args.k IsRun-24 (omega (arith, ints)) (omega (arith, ints))) }

pub returns-in-24-to-29 : goal.returns-in-24-to-29
returns-in-24-to-29 c = record { carrier = omega (arith, ints, carrier-in-run 24 23 6 c.args.k IsRun-23 (omega (arith, ints)) (omega (arith, ints))) }

pub returns-in-30-to-42 : goal.returns-in-30-to-42
returns-in-30-to-42 c = record { carrier = omega (arith, ints, carrier-in-run 30 22 13 c.args.k IsRun-22 (omega (arith, ints)) (omega (arith, ints))) }

pub returns-in_default : goal.returns-in_default
returns-in_default c =
    let last = λ (least : 43 ≤ c.args.k). carrier-in-run 43 21 5 c.args.k IsRun-21 least (omega (arith, ints)) in
    record {
      carrier = elim c.in_default.branch [
        | in_default-via-then-k-lt0 w ↦ absurd (omega (arith, ints))
        | in_default-via-else-k-lt0+else-k-lt5+else-k-lt18+else-k-lt24+else-k-lt30+else-k-lt43 w ↦ omega (arith, ints, last (omega (arith, ints)))
      ];
    }
