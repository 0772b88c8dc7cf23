use Rattle.std.proofs.Common.{◌≡◌, ℕ, List, take, refl, subst, sym, arith}
use Rattle.frame_reader.specs.Frames.{HasField}
use Rattle.frame_starts.proofs.reading.heard_at.Goals as goal

pub returns-clause-heard : goal.returns-clause-heard
returns-clause-heard c = λ decisions capture stands whole.
    let psdu : c.from_vec.result ≡ take c.args.header.now.length c.finish_field-seed.new.octets = grind (arith, c.from_vec.ensures, c.in_ok-psdu.ensures, c.from.ensures) in
    record {
      whole = whole;
      rate = refl;
      octets = refl;
      field = subst (λ (psdu : List ℕ). HasField decisions c.args.header.now c.finish_field-seed.result psdu) (sym psdu) (c.finish_field-seed.ensures.field decisions stands);
    }
