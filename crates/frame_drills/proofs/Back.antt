-- Whether a frame comes back of a capture, and what drills come to.
use Rattle.std.proofs.Common.{◌≡◌, ◌≢◌, ◌⊎◌, inl, inr, ℕ, ◌<◌, Bool, true, false, List, [], ◌∷◌, Option, Some, None, length, map, refl, sym, ap, ◌∙◌, subst}
use Rattle.std.specs.Prelude.{◌↔◌, IsTrue}
use Rattle.std.specs.List.{count_by, sum_by}
use Rattle.std.specs.Str.{bytes_eq}
use Rattle.std.proofs.lemmas.Bool.{false≢true}
use Rattle.std.proofs.lemmas.Slice.Eq.{bytes_eq-Decides}
use Rattle.fixed_complex.specs.declared.Sample.{Sample}
use Rattle.rate_table.proofs.ByRate.{rate_of_mbps, rate_of_mbps-of}
use Rattle.rate_table.specs.Table.{row_of}
use Rattle.frame_findings.specs.declared.Cut.{Cut}
use Rattle.frame_findings.specs.declared.Heard.{Heard}
use Rattle.frame_findings.specs.Walk.{AreFindings}
use Rattle.frame_findings.proofs.Walking.{one_findings, some_findings}
use Rattle.frame_lists.specs.Near.{SentFrame}
use Rattle.frames_in_noise.specs.Laws.{heard_of}
use Rattle.frame_drills.specs.declared.summaries.Summary.{Summary}
use Rattle.frame_drills.specs.Captures.{ComesBack, first_capture, second_capture}
use Rattle.frame_drills.specs.Draws.{drawn}
use Rattle.frame_drills.specs.Laws.{OneSummary, SomeSummary}
use Rattle.frame_drills.specs.Summaries.{TellsBack, numbers}
use Rattle.frame_drills.proofs.Totals.{count_alike, filter_alike, octets_of}

-- what is heard is the findings' one frame, and there is no cut
pub alone : (capture : List Sample) (heard : List Heard) (cut : Option Cut) (frame : SentFrame) → AreFindings capture heard cut → ComesBack capture frame → (heard ≡ heard_of frame ∷ []) × (cut ≡ None)
alone capture heard cut frame found back = one_findings capture heard (heard_of frame ∷ []) cut None found back

pub alone_back : (capture : List Sample) (heard : List Heard) (cut : Option Cut) (frame : SentFrame) → AreFindings capture heard cut → heard ≡ heard_of frame ∷ [] → cut ≡ None → ComesBack capture frame
alone_back capture heard cut frame found one none =
    subst (λ end. AreFindings capture (heard_of frame ∷ []) end) none (subst (λ list. AreFindings capture list cut) one found)

-- so a test of both tells whether it comes back
pub told_back : (capture : List Sample) (heard : List Heard) (cut : Option Cut) (frame : SentFrame) (test : Bool) → AreFindings capture heard cut → IsTrue test ↔ ((heard ≡ heard_of frame ∷ []) × (cut ≡ None)) → IsTrue test ↔ ComesBack capture frame
told_back capture heard cut frame test found means =
    (λ is. let both = means.0 is in alone_back capture heard cut frame found both.0 both.1, λ back. means.1 (alone capture heard cut frame found back))

-- and where no frame is heard, none does
pub none_back : (capture : List Sample) (cut : Option Cut) (frame : SentFrame) → AreFindings capture [] cut → IsTrue false ↔ ComesBack capture frame
none_back capture cut frame found =
    (λ is. absurd (false≢true is), λ back. absurd (let none = (alone capture [] cut frame found back).0 in cc))

-- two frames are heard alike or not: by their numbers and octets in one list
listed : Heard → List ℕ
listed heard = heard.start ∷ (row_of heard.rate).mbps ∷ heard.length ∷ heard.seed ∷ heard.psdu

heard_in : List ℕ → Heard
heard_in (start ∷ mbps ∷ octets ∷ seed ∷ psdu) =
    record { start = start; rate = rate_of_mbps mbps; length = octets; seed = seed; psdu = psdu }
heard_in list = record { start = 0; rate = rate_of_mbps 0; length = 0; seed = 0; psdu = list }

listed_back : (heard : Heard) → heard_in (listed heard) ≡ heard
unfolding listed heard_in
listed_back heard = ap (λ r. record heard { rate = r }) (rate_of_mbps-of heard.rate)

listed_alike : (a b : Heard) → listed a ≡ listed b → a ≡ b
listed_alike a b same = sym (listed_back a) ∙ ap heard_in same ∙ listed_back b

heard_or_not : (a b : Heard) → (a ≡ b) ⊎ (a ≢ b)
heard_or_not a b = by (bytes_eq (listed a) (listed b)) (bytes_eq-Decides (listed a) (listed b))
  where
    by : (test : Bool) → (test ≡ true → listed a ≡ listed b) × (listed a ≡ listed b → test ≡ true) → (a ≡ b) ⊎ (a ≢ b)
    by true means = inl (listed_alike a b (means.0 refl))
    by false means = inr (λ same. false≢true (means.1 (ap listed same)))

back_where_found : (capture : List Sample) (frame : SentFrame) (heard : List Heard) (cut : Option Cut) → AreFindings capture heard cut → ComesBack capture frame ⊎ ¬ ComesBack capture frame
back_where_found capture frame [] cut found = inr (λ back. let none = (alone capture [] cut frame found back).0 in cc)
back_where_found capture frame (one ∷ []) None found =
    elim (heard_or_not one (heard_of frame)) [
      | inl same ↦ inl (alone_back capture (one ∷ []) None frame found (ap (λ h. h ∷ []) same) refl)
      | inr differ ↦ inr (λ back. differ (let list = (alone capture (one ∷ []) None frame found back).0 in cc))
    ]
back_where_found capture frame (one ∷ []) (Some cut) found = inr (λ back. let none = (alone capture (one ∷ []) (Some cut) frame found back).1 in cc)
back_where_found capture frame (one ∷ other ∷ heard) cut found = inr (λ back. let list = (alone capture (one ∷ other ∷ heard) cut frame found back).0 in cc)

pub back_or_not : (capture : List Sample) (frame : SentFrame) → ComesBack capture frame ⊎ ¬ ComesBack capture frame
back_or_not capture frame = let found = some_findings capture in back_where_found capture frame found.0 found.1.0 found.1.1

-- a test of it
tested : {P : Type 0} → P ⊎ ¬ P → Bool
tested (inl holds) = true
tested (inr fails) = false

tested_is : {P : Type 0} (decided : P ⊎ ¬ P) → IsTrue (tested decided) ↔ P
unfolding tested
tested_is (inl holds) = (λ is. holds, λ is. refl)
tested_is (inr fails) = (λ is. absurd (false≢true is), λ holds. absurd (fails holds))

pub is_back : (ℕ → List Sample) → ℕ → Bool
is_back capture_of number = tested (back_or_not (capture_of number) (drawn number))

pub tells_back : (capture_of : ℕ → List Sample) (count : ℕ) → TellsBack capture_of count (is_back capture_of)
unfolding is_back
tells_back capture_of count number below = tested_is (back_or_not (capture_of number) (drawn number))

pub where_back : (capture_of : ℕ → List Sample) (number : ℕ) → ComesBack (capture_of number) (drawn number) → is_back capture_of number ≡ true
unfolding is_back
where_back capture_of number back = (tested_is (back_or_not (capture_of number) (drawn number))).1 back

pub where_lost : (capture_of : ℕ → List Sample) (number : ℕ) → ¬ ComesBack (capture_of number) (drawn number) → is_back capture_of number ≡ false
unfolding is_back tested
where_lost capture_of number lost = by (back_or_not (capture_of number) (drawn number))
  where
    by : (decided : ComesBack (capture_of number) (drawn number) ⊎ ¬ ComesBack (capture_of number) (drawn number)) → tested decided ≡ false
    by (inl back) = absurd (lost back)
    by (inr not_back) = refl

-- ---- summaries
pub some_summary : SomeSummary
some_summary count = (
  record {
    count = count;
    heard = count_by (is_back first_capture) (numbers count);
    octets = octets_of (is_back second_capture) count;
    samples = sum_by length (map first_capture (numbers count));
  },
  record {
    is_first = is_back first_capture;
    is_second = is_back second_capture;
    first = tells_back first_capture count;
    second = tells_back second_capture count;
    count_is = refl;
    heard = refl;
    octets = refl;
    samples = refl;
  },
)

-- tests of one fact agree
same_test : (a b : Bool) (P : Type 0) → IsTrue a ↔ P → IsTrue b ↔ P → a ≡ b
same_test true b P first second = sym (second.1 (first.0 refl))
same_test false true P first second = first.1 (second.0 refl)
same_test false false P first second = refl

same_tests : (capture_of : ℕ → List Sample) (count : ℕ) (test other : ℕ → Bool) → TellsBack capture_of count test → TellsBack capture_of count other → (n : ℕ) → n < count → test n ≡ other n
same_tests capture_of count test other tells tells' n below = same_test (test n) (other n) (ComesBack (capture_of n) (drawn n)) (tells n below) (tells' n below)

same_summary : (a b : Summary) → a.count ≡ b.count → a.heard ≡ b.heard → a.octets ≡ b.octets → a.samples ≡ b.samples → a ≡ b
same_summary a b count heard octets samples =
    ap (λ n. record { count = n; heard = a.heard; octets = a.octets; samples = a.samples }) count
    ∙ ap (λ n. record { count = b.count; heard = n; octets = a.octets; samples = a.samples }) heard
    ∙ ap (λ n. record { count = b.count; heard = b.heard; octets = n; samples = a.samples }) octets
    ∙ ap (λ n. record { count = b.count; heard = b.heard; octets = b.octets; samples = n }) samples

pub one_summary : OneSummary
one_summary count a b is is' =
    same_summary a b (is.count_is ∙ sym is'.count_is)
    (is.heard ∙ count_alike is.is_first is'.is_first count (same_tests first_capture count is.is_first is'.is_first is.first is'.first) ∙ sym is'.heard)
    (is.octets ∙ ap (sum_by (λ number. length (drawn number).psdu)) (filter_alike is.is_second is'.is_second count (same_tests second_capture count is.is_second is'.is_second is.second is'.second)) ∙ sym is'.octets)
    (is.samples ∙ sym is'.samples)
