use Rattle.std.proofs.Common.{◌≡◌, ◌++◌, ◌∙◌, length, ap, arith}
use Rattle.std.proofs.lemmas.List.Elements.{All-append}
use Rattle.bit_lists.specs.Bits.{IsBit, bits_of_octet}
use Rattle.bit_lists.proofs.BitFacts.{AreBits-bits_of_octet}
use Rattle.bit_lists.proofs.push_octet.Goals as goal

pub returns : goal.returns
unfolding bits_of_octet
returns c =
    let old = c.args.bits.now.items in
    let octet = c.args.octet in
    let pushed : c.extend_from_slice.new.self.items ≡ old ++ bits_of_octet octet =
    c.in_ok-extend_from_slice.ensures.items ∙ ap (λ bits. old ++ bits) c.bits_in.ensures in
    let eight : length c.bits_in.result ≡ 8 = ap length c.bits_in.ensures in
    record {
      value = pushed;
      len = omega (arith, c.in_ok-extend_from_slice.ensures.len, eight);
      bits = λ are. rw pushed (All-append IsBit old (bits_of_octet octet) are (AreBits-bits_of_octet octet));
    }
