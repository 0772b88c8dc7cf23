use Rattle.constellations.proofs.Gray.{decided_bpsk, decided_qpsk, decided_16, decided_64}
use Rattle.constellations.proofs.bits_at_places.Goals as goal

pub returns-in-Bpsk-clause-decided : goal.returns-in-Bpsk-clause-decided
returns-in-Bpsk-clause-decided c = λ z m place_i place_q.
    let i = rw c.in-Bpsk.is at place_i in
    let i_within = rw c.in-Bpsk.is at c.requires.i in
    rw (c.gray_bit.ensures.gray, c.in-Bpsk.is) (decided_bpsk z m c.args.i i i_within)

pub returns-in-Qpsk-clause-decided : goal.returns-in-Qpsk-clause-decided
returns-in-Qpsk-clause-decided c = λ z m place_i place_q.
    let i = rw c.in-Qpsk.is at place_i in
    let i_within = rw c.in-Qpsk.is at c.requires.i in
    let q = rw c.in-Qpsk.is at place_q in
    let q_within = rw c.in-Qpsk.is at c.requires.q in
    rw (c.gray_bit-in-Qpsk.ensures.gray, c.gray_bit-in-Qpsk-2.ensures.gray, c.in-Qpsk.is) (decided_qpsk z m c.args.i c.args.q i i_within q q_within)

pub returns-in-Qam16-clause-decided : goal.returns-in-Qam16-clause-decided
returns-in-Qam16-clause-decided c = λ z m place_i place_q.
    let i = rw c.in-Qam16.is at place_i in
    let i_within = rw c.in-Qam16.is at c.requires.i in
    let q = rw c.in-Qam16.is at place_q in
    let q_within = rw c.in-Qam16.is at c.requires.q in
    rw (c.gray_bit-in-Qam16.ensures.gray, c.gray_bit-in-Qam16-2.ensures.gray, c.gray_bit-in-Qam16-3.ensures.gray, c.gray_bit-in-Qam16-4.ensures.gray, c.in-Qam16.is) (decided_16 z m c.args.i c.args.q i i_within q q_within)

pub returns-in-Qam64-clause-decided : goal.returns-in-Qam64-clause-decided
returns-in-Qam64-clause-decided c = λ z m place_i place_q.
    let i = rw c.in-Qam64.is at place_i in
    let i_within = rw c.in-Qam64.is at c.requires.i in
    let q = rw c.in-Qam64.is at place_q in
    let q_within = rw c.in-Qam64.is at c.requires.q in
    rw (c.gray_bit-in-Qam64.ensures.gray, c.gray_bit-in-Qam64-2.ensures.gray, c.gray_bit-in-Qam64-3.ensures.gray, c.gray_bit-in-Qam64-4.ensures.gray, c.gray_bit-in-Qam64-5.ensures.gray, c.gray_bit-in-Qam64-6.ensures.gray, c.in-Qam64.is) (decided_64 z m c.args.i c.args.q i i_within q q_within)
