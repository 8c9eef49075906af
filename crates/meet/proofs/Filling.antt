-- The loop that fills the balls, link by link: one record for its invariant, and a law each for its start, its step and
-- its end.
use Prim.Native.Nat.{ℕ, suc, ◌+◌, ◌≤◌, ◌<◌}
use native.Mathlib.Omega.{arith}
use mathlib.Core.Path.{◌≡◌, ap}
use mathlib.Core.Bool.{true, and-eq-true_iff}
use mathlib.Core.List.{List, [], ◌∷◌, ◌++◌, map, append_assoc, append-nil}
use lib.ListN.{length}
use Rattle.std.proofs.lemmas.List.{length-append}
use borrow.Author.Tests.{leb-true}
use Rattle.lists.specs.Search.{all}
use Rattle.chain.specs.declared.Kinematics.{Kinematics}
use Rattle.model.specs.declared.Link.{Link}
use Rattle.model.specs.Model.{links_of}
use Rattle.meet.specs.MeetingSteps.{link_ball, whole_solid}
use Rattle.meet.specs.declared.Ball.{Ball}

-- the balls so far, and the links that are left
pub record Filling (k : Kinematics) (bytes : List ℕ) (balls : List Ball) (rest : List Link) : Type 0 where
  pub few : length balls + length rest ≤ 64
  pub whole : all (whole_solid bytes) rest ≡ true
  pub done : balls ++ map (link_ball k bytes) rest ≡ map (link_ball k bytes) (links_of bytes)

module _ {k : Kinematics} {bytes : List ℕ} where
  pub filling_start : {balls : List Ball} {rest : List Link} → length (links_of bytes) ≤ 64 → all (whole_solid bytes) (links_of bytes) ≡ true → balls ≡ [] → rest ≡ links_of bytes
      → Filling k bytes balls rest
  filling_start h w n e = record { few = rw (n, e) (omega (arith, h)); whole = rw e w; done = rw (n, e) }

  module _ {balls : List Ball} {l : Link} {rest later : List Link} (this : rest ≡ l ∷ later) (g : Filling k bytes balls rest) where
    pub filling_room : length balls < 64
    filling_room =
        let s : length rest ≡ suc (length later) = ap (length {A = Link}) this in
        let f = g.few in
        omega (arith, f, s)

    parts : (whole_solid bytes l ≡ true) × (all (whole_solid bytes) later ≡ true)
    unfolding all
    parts = (and-eq-true_iff (whole_solid bytes l) (all (whole_solid bytes) later)).0 (rw this at g.whole)

    pub filling_whole : l.kind + 65 ≤ length bytes
    unfolding whole_solid
    filling_whole = leb-true (l.kind + 65) (length bytes) parts.0

    pub filling_step : {more : List Ball} {ball : Ball} → ball ≡ link_ball k bytes l → more ≡ balls ++ (ball ∷ []) → Filling k bytes more later
    filling_step {more} {ball} b e =
        let s : length rest ≡ suc (length later) = ap (length {A = Link}) this in
        let n : length more ≡ length balls + 1 = rw e (length-append balls (ball ∷ [])) in
        let f = g.few in
        record {
          few = omega (arith, f, s, n);
          whole = parts.1;
          done = rw (e, b, append_assoc) (rw this at g.done);
        }

  pub filling_end : {balls : List Ball} {rest : List Link} → rest ≡ [] → Filling k bytes balls rest → balls ≡ map (link_ball k bytes) (links_of bytes)
  filling_end e g = rw (e, append-nil) at g.done
