-- One walk: what it hears, where it ends, and that any two agree.
use Rattle.std.proofs.Common.{◌≡◌, ℕ, zero, suc, ◌+◌, ◌-◌, ◌≤◌, ◌⊎◌, ◌∙◌, List, [], ◌∷◌, ◌++◌, length, drop, refl, sym, ap, arith, inl, inr}
use Rattle.std.specs.Prelude.{Option, Some, None}
use Rattle.std.proofs.lemmas.Bool.{cases_lt}
use Rattle.std.proofs.lemmas.List.{append-nil, drop-append-le, length-append, length-drop}
use Rattle.fixed_complex.specs.declared.Sample.{Sample}
use Rattle.signal_field.specs.declared.Header.{Header}
use Rattle.frame_reader.specs.Decisions.{plain_decisions}
use Rattle.frame_reader.specs.Frames.{need_of}
use Rattle.frame_reader.proofs.Fronts.{field_front}
use Rattle.frame_reader.proofs.Readings.{one_field, some_field}
use Rattle.frame_findings.specs.declared.Cut.{Cut}
use Rattle.frame_findings.specs.declared.Heard.{Heard}
use Rattle.frame_findings.specs.Laws.{FramesStay, OneFindings, SomeFindings}
use Rattle.frame_findings.specs.Walk.{CutsNext, Ends, HearsNext, IsNextChosen, Walks, end_of}
use Rattle.frame_findings.proofs.Chosen.{next_front, next_is_some, next_or_none, one_next}

-- the end of a frame that is heard is the place of its header and its samples
pub end_is : (capture : List Sample) (from : ℕ) (heard : Heard) → (hears : HearsNext capture from heard) → end_of heard ≡ heard.start + need_of hears.header
end_is capture from heard hears = rw (hears.frame.rate, hears.frame.octets) refl

-- frames are heard alike
pub heard_alike : (heard other : Heard) → heard.start ≡ other.start → heard.rate ≡ other.rate → heard.length ≡ other.length → heard.seed ≡ other.seed
    → heard.psdu ≡ other.psdu → heard ≡ other
heard_alike heard other start rate octets seed psdu =
    ap (λ place. record heard { start = place }) start
    ∙ ap (λ r. record heard { start = other.start; rate = r }) rate
    ∙ ap (λ octets. record { start = other.start; rate = other.rate; length = octets; seed = heard.seed; psdu = heard.psdu }) octets
    ∙ ap (λ number. record { start = other.start; rate = other.rate; length = other.length; seed = number; psdu = heard.psdu }) seed
    ∙ ap (λ items. record { start = other.start; rate = other.rate; length = other.length; seed = other.seed; psdu = items }) psdu

-- one frame is heard next
pub one_heard : (capture : List Sample) (from : ℕ) (heard other : Heard) → HearsNext capture from heard → HearsNext capture from other → heard ≡ other
one_heard capture from heard other first second =
    let same = one_next capture from heard.start other.start first.header second.header first.next second.next in
    let start = same.0 in
    let header = same.1 in
    let there = rw (sym start, sym header) at second.frame.field in
    let field = one_field (plain_decisions (drop heard.start capture)) first.header heard.seed other.seed heard.psdu other.psdu first.frame.field there in
    heard_alike heard other start (first.frame.rate ∙ ap (λ h. h.rate) header ∙ sym second.frame.rate)
    (first.frame.octets ∙ ap (λ h. h.length) header ∙ sym second.frame.octets)
    field.0 field.1

cuts_alike : (cut other : Cut) → cut.start ≡ other.start → cut.have ≡ other.have → cut.need ≡ other.need → cut ≡ other
cuts_alike cut other start have need =
    ap (λ place. record { start = place; have = cut.have; need = cut.need }) start
    ∙ ap (λ samples. record { start = other.start; have = samples; need = cut.need }) have
    ∙ ap (λ samples. record { start = other.start; have = other.have; need = samples }) need

-- and the capture ends in one way
one_cut : (capture : List Sample) (from : ℕ) (cut other : Cut) → CutsNext capture from cut → CutsNext capture from other → cut ≡ other
one_cut capture from cut other first second =
    let same = one_next capture from cut.start other.start first.header second.header first.next second.next in
    let start = same.0 in
    let header = same.1 in
    cuts_alike cut other start (omega (arith, first.have, second.have)) (first.need ∙ ap need_of header ∙ sym second.need)

pub one_end : (capture : List Sample) (upto : ℕ) (cut end : Option Cut) → Ends capture upto cut → Ends capture upto end → cut ≡ end
one_end capture upto None None first second = refl
one_end capture upto None (Some other) first second = absurd (next_is_some capture upto other.start second.header second.next first)
one_end capture upto (Some cut) None first second = absurd (next_is_some capture upto cut.start first.header first.next second)
one_end capture upto (Some cut) (Some other) first second = ap Some (one_cut capture upto cut other first second)

-- where a frame is heard next, the walk goes on
pub goes_on : (capture : List Sample) (from : ℕ) (cut : Option Cut) (heard : Heard) → Ends capture from cut → HearsNext capture from heard → ⊥
goes_on capture from None heard ends hears = next_is_some capture from heard.start hears.header hears.next ends
goes_on capture from (Some cut) heard ends hears =
    let same = one_next capture from cut.start heard.start ends.header hears.header ends.next hears.next in
    let start = same.0 in
    let need : need_of ends.header ≡ need_of hears.header = ap need_of same.1 in
    omega (arith, start, need, ends.have, ends.need, ends.short, hears.frame.whole)

-- the rest of a walk
pub record GoesOn (capture : List Sample) (all begun : List Heard) (from upto : ℕ) : Type 0 where
  pub rest : List Heard
  pub is : all ≡ begun ++ rest
  pub walks : Walks capture from rest upto

-- a walk that ends has begun with any other walk from the same place on
pub begins_with : (capture : List Sample) (from upto middle : ℕ) (all begun : List Heard) (cut : Option Cut) → Walks capture from all upto → Ends capture upto cut
    → Walks capture from begun middle → GoesOn capture all begun middle upto
begins_with capture from upto middle all [] cut walks ends other = record { rest = all; is = refl; walks = rw (sym other) walks }
begins_with capture from upto middle [] (heard ∷ begun) cut walks ends other = absurd (goes_on capture from cut heard (rw walks ends) other.0)
begins_with capture from upto middle (first ∷ all) (heard ∷ begun) cut walks ends other =
    let same = one_heard capture from first heard walks.0 other.0 in
    let there = rw same at walks.1 in
    let more = begins_with capture (end_of heard) upto middle all begun cut there ends other.1 in
    record { rest = more.rest; is = ap (λ h. h ∷ all) same ∙ ap (λ list. heard ∷ list) more.is; walks = more.walks }

-- a walk from where one ends has heard nothing
ends_at : (capture : List Sample) (from upto : ℕ) (rest : List Heard) (end : Option Cut) → Walks capture from rest upto → Ends capture from end → rest ≡ []
ends_at capture from upto [] end walks ends = refl
ends_at capture from upto (heard ∷ rest) end walks ends = absurd (goes_on capture from end heard ends walks.0)

no_rest : (capture : List Sample) (from upto : ℕ) (rest : List Heard) → rest ≡ [] → Walks capture from rest upto → from ≡ upto
no_rest capture from upto [] none walks = walks
no_rest capture from upto (heard ∷ rest) none walks = absurd (cc)

pub one_findings : OneFindings
one_findings capture heard other cut end first second =
    let more = begins_with capture 0 first.upto second.upto heard other cut first.walks first.ends second.walks in
    let none = ends_at capture second.upto first.upto more.rest end more.walks second.ends in
    let upto = no_rest capture second.upto first.upto more.rest none more.walks in
    (more.is ∙ ap (λ rest. other ++ rest) none ∙ append-nil other, one_end capture first.upto cut end first.ends (rw upto at second.ends))

-- in the front of longer samples
hears_front : (xs ys : List Sample) (from : ℕ) (heard : Heard) → HearsNext xs from heard → HearsNext (xs ++ ys) from heard
hears_front xs ys from heard hears =
    let whole = hears.frame.whole in
    let inside : heard.start ≤ length xs = omega arith in
    let front = drop-append-le heard.start xs ys inside in
    record {
      header = hears.header;
      next = next_front xs ys from heard.start hears.header hears.next;
      frame = record {
        whole = omega (arith, length-append xs ys);
        rate = hears.frame.rate;
        octets = hears.frame.octets;
        field = rw front (field_front (drop heard.start xs) ys hears.header heard.seed heard.psdu (omega (arith, length-drop heard.start xs)) hears.frame.field);
      };
    }

pub walks_front : (xs ys : List Sample) (from upto : ℕ) (heard : List Heard) → Walks xs from heard upto → Walks (xs ++ ys) from heard upto
walks_front xs ys from upto [] walks = walks
walks_front xs ys from upto (heard ∷ rest) walks = (hears_front xs ys from heard walks.0, walks_front xs ys (end_of heard) upto rest walks.1)

pub frames_stay : FramesStay
frames_stay capture more heard longer cut end first second =
    let begun = begins_with (capture ++ more) 0 second.upto first.upto longer heard end second.walks second.ends (walks_front capture more 0 first.upto heard first.walks) in
    (begun.rest, begun.is)

-- from every place on some walk ends
record WalksToEnd (capture : List Sample) (from : ℕ) : Type 0 where
  heard : List Heard
  cut : Option Cut
  upto : ℕ
  walks : Walks capture from heard upto
  ends : Ends capture upto cut

-- the next chosen place is that of a frame, or of a cut
whole_or_cut : (capture : List Sample) (from place : ℕ) (header : Header) → IsNextChosen capture from place header
    → ((heard : Heard) × HearsNext capture from heard) ⊎ ((cut : Cut) × CutsNext capture from cut)
whole_or_cut capture from place header next =
    elim (cases_lt (length capture) (place + need_of header)) [
      | inl short ↦
          let within = next.chosen.within in
          inr (
            record { start = place; have = length capture - place; need = need_of header },
            record {
              header = header;
              next = next;
              have = omega arith;
              need = refl;
              short = omega arith;
            },
          )
      | inr whole ↦
          let field = some_field (plain_decisions (drop place capture)) header in
          inl (
            record { start = place; rate = header.rate; length = header.length; seed = field.0; psdu = field.1.0 },
            record {
              header = header;
              next = next;
              frame = record { whole = whole; rate = refl; octets = refl; field = field.1.1 };
            },
          )
    ]

some_walk : (capture : List Sample) (left from : ℕ) → length capture ≤ from + left → WalksToEnd capture from
some_walk capture zero from all =
    record { heard = []; cut = None; upto = from; walks = refl; ends = λ place header least below chosen. absurd (omega arith) }
some_walk capture (suc left) from all =
    elim (next_or_none capture from) [
      | inl none ↦ record { heard = []; cut = None; upto = from; walks = refl; ends = none }
      | inr found ↦ elim (whole_or_cut capture from found.0 found.1.0 found.1.1) [
        | inl heard ↦
            let least = heard.1.next.least in
            let behind = end_is capture from heard.0 heard.1 in
            let rest = some_walk capture left (end_of heard.0) (omega (arith, behind)) in
            record { heard = heard.0 ∷ rest.heard; cut = rest.cut; upto = rest.upto; walks = (heard.1, rest.walks); ends = rest.ends }
        | inr cut ↦ record { heard = []; cut = Some cut.0; upto = from; walks = refl; ends = cut.1 }
      ]
    ]

pub some_findings : SomeFindings
some_findings capture =
    let walk = some_walk capture (length capture) 0 (omega arith) in
    (walk.heard, (walk.cut, record { upto = walk.upto; walks = walk.walks; ends = walk.ends }))
