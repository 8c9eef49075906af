-- Items in two flat lists, one of six numbers each and one of five: what reading and storing one comes to among all of them.
use Prim.Native.Nat.{ℕ, ◌*◌, ◌≤◌, ◌<◌}
use native.Mathlib.Numerals.{towards_suc}
use native.Mathlib.Omega.{arith}
use mathlib.Core.Path.{◌≡◌, refl, ap, ◌∙◌}
use mathlib.Core.List.{List, [], ◌∷◌, ◌++◌}
use lib.ListN.{length, get_or, take, set, length-set}
use lib.Seq.{sets}
use lib.Ieee.{Float}
use Rattle.lists.specs.Rows.{table, Codec}
use Rattle.lists.proofs.Rows.{length_table, get_or_table, take_table, set_table}
use Rattle.chain.specs.declared.ToolPose.{ToolPose}
use Rattle.path.specs.Solving.{pose_from, pose_in, joint_numbers, joints_over}
use Rattle.path.proofs.Walking.{joints_sets}
use Rattle.turn.specs.Items.{joints_from, joints_in, pose_numbers, pose_over, item, item_at, items_in, poses_with, joints_with}
use Rattle.turn.specs.Turning.{absent}
use Rattle.middle.specs.declared.Item.{Item}

six : (v l : List Float) → length v ≡ 6 → pose_numbers (pose_from (v ++ l)) ≡ v
six [] l h = absurd (omega arith)
six (a ∷ []) l h = absurd (omega arith)
six (a ∷ b ∷ []) l h = absurd (omega arith)
six (a ∷ b ∷ c ∷ []) l h = absurd (omega arith)
six (a ∷ b ∷ c ∷ d ∷ []) l h = absurd (omega arith)
six (a ∷ b ∷ c ∷ d ∷ e ∷ []) l h = absurd (omega arith)
six (a ∷ b ∷ c ∷ d ∷ e ∷ f ∷ []) l h = refl
six (a ∷ b ∷ c ∷ d ∷ e ∷ f ∷ g ∷ v) l h = absurd (omega arith)

five : (v l : List Float) → length v ≡ 5 → joint_numbers (joints_from (v ++ l)) ≡ v
five [] l h = absurd (omega arith)
five (a ∷ []) l h = absurd (omega arith)
five (a ∷ b ∷ []) l h = absurd (omega arith)
five (a ∷ b ∷ c ∷ []) l h = absurd (omega arith)
five (a ∷ b ∷ c ∷ d ∷ []) l h = absurd (omega arith)
five (a ∷ b ∷ c ∷ d ∷ e ∷ []) l h = refl
five (a ∷ b ∷ c ∷ d ∷ e ∷ f ∷ v) l h = absurd (omega arith)

pub pose_codec : Codec 6 pose_from pose_numbers
pose_codec = record { length_put = λ x. refl; get_put = λ x l. refl; put_get = six }

pub joints_codec : Codec 5 joints_from joint_numbers
joints_codec = record { length_put = λ x. refl; get_put = λ x l. refl; put_get = five }

pub items_length : (n : ℕ) (p q : List Float) → length (items_in n p q) ≡ n
unfolding items_in
items_length n p q = length_table 6 pose_from 5 joints_from item n p q

pub item_is : (n : ℕ) (p q : List Float) (i : ℕ) → i < n → get_or (items_in n p q) i absent ≡ item_at p q i
unfolding items_in item_at pose_in joints_in
item_is n p q i h = get_or_table 6 pose_from 5 joints_from item n p q i absent h

pub items_take : (j n : ℕ) (p q : List Float) → j ≤ n → take j (items_in n p q) ≡ items_in j p q
unfolding items_in
items_take j n p q h = take_table 6 pose_from 5 joints_from item j n p q h

pub pose_sets : (x : ToolPose) (l : List Float) (b : ℕ) → pose_over x l b ≡ sets l b (pose_numbers x)
unfolding pose_over
pose_sets x l b = simp towards_suc

pub poses_with_long : (t : Item) (p : List Float) (i : ℕ) → length (poses_with t p i) ≡ length p
unfolding poses_with pose_over
poses_with_long t p i = simp length-set

pub joints_with_long : (t : Item) (q : List Float) (i : ℕ) → length (joints_with t q i) ≡ length q
unfolding joints_with joints_over
joints_with_long t q i = simp length-set

pub item_set : (n : ℕ) (p q : List Float) (i : ℕ) (t : Item) → i < n → n * 6 ≤ length p → n * 5 ≤ length q
    → items_in n (poses_with t p i) (joints_with t q i) ≡ set (items_in n p q) i t
unfolding items_in poses_with joints_with
item_set n p q i t h a b =
    ap (λ (l : List Float). table 6 pose_from 5 joints_from item n l (joints_over t.joints q (i * 5))) (pose_sets t.pose p (i * 6))
    ∙ ap (λ (l : List Float). table 6 pose_from 5 joints_from item n (sets p (i * 6) (pose_numbers t.pose)) l) (joints_sets t.joints q (i * 5))
    ∙ set_table pose_codec joints_codec item n p q i t.pose t.joints h a b
