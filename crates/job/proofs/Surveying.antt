-- The fold over a path's joint sets: what it comes to, field by field, and that it may go over chunks of numbers.
use Rattle.std.proofs.Common.{◌≡◌, ℕ, zero, suc, ◌/◌, Bool, true, false, ◌&&◌, List, [], ◌∷◌, length, drop, refl, ap, ◌∙◌}
use lib.Ieee.{Float}
use Rattle.std.specs.List as Std
use Rattle.std.specs.Simd.{first_chunks}
use Rattle.lists.specs.Fold.{fold}
use Rattle.lists.specs.Rows.{rows}
use Rattle.lists.specs.Search.{all}
use Rattle.chain.specs.declared.Joints.{Joints}
use Rattle.chain.specs.Check.{joints_finite, joints_within}
use Rattle.turn.specs.Items.{joints_from, joints_in}
use Rattle.turn.proofs.Chunks.{front}
use Rattle.job.specs.Cable.{joint_sets, wind_of, turns_within, larger, most_turns, also, surveyed, survey}
use Rattle.job.specs.declared.Survey.{Survey}

-- nothing read yet
abbrev pub unread : Survey
unread = record { finite = true; within = true; turns = 0 }

fold_also : (test : Joints → Bool) (b : Bool) (l : List Joints) → fold (λ (b : Bool) (j : Joints). also b (test j)) b l ≡ b && all test l
unfolding fold all also
fold_also test true [] = refl
fold_also test false [] = refl
fold_also test true (j ∷ l) = fold_also test (test j) l
fold_also test false (j ∷ l) = fold_also test false l

by_field : (rest : Float) (rotary : ℕ) (s : Survey) (l : List Joints)
    → fold (surveyed rest rotary) s l
    ≡ record {
      finite = fold (λ (b : Bool) (j : Joints). also b (joints_finite j)) s.finite l;
      within = fold (λ (b : Bool) (j : Joints). also b (joints_within j)) s.within l;
      turns = fold (λ (k : ℕ) (j : Joints). larger k (turns_within (wind_of rest rotary j))) s.turns l;
    }
unfolding fold surveyed
by_field rest rotary s [] = refl
by_field rest rotary s (j ∷ l) = by_field rest rotary (surveyed rest rotary s j) l

survey_is : (rest : Float) (rotary : ℕ) (l : List Joints) → fold (surveyed rest rotary) unread l ≡ survey rest rotary l
unfolding survey most_turns
survey_is rest rotary l = by_field rest rotary unread l ∙ rw (fold_also joints_finite true l, fold_also joints_within true l)

-- ---- over chunks of five numbers, which are the joint sets
chunks_surveyed : (rest : Float) (rotary n : ℕ) (s : Survey) (l : List Float) → Std.fold (λ s c. surveyed rest rotary s (joints_in c 0)) s (first_chunks 5 n l) ≡ fold (surveyed rest rotary) s (rows 5 joints_from n l)
unfolding rows fold joints_in
chunks_surveyed rest rotary zero s l = refl
chunks_surveyed rest rotary (suc n) s l =
    ap (λ (j : Joints). Std.fold (λ s c. surveyed rest rotary s (joints_in c 0)) (surveyed rest rotary s j) (first_chunks 5 n (drop 5 l))) (front l)
    ∙ chunks_surveyed rest rotary n (surveyed rest rotary s (joints_from l)) (drop 5 l)

pub survey_chunks : (rest : Float) (rotary : ℕ) (l : List Float) → Std.fold (λ s c. surveyed rest rotary s (joints_in c 0)) unread (first_chunks 5 (length l / 5) l) ≡ survey rest rotary (joint_sets l)
unfolding joint_sets
survey_chunks rest rotary l = chunks_surveyed rest rotary (length l / 5) unread l ∙ survey_is rest rotary (rows 5 joints_from (length l / 5) l)
