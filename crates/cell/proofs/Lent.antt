-- Lent lists after elements came forward, by their parts.
use Prim.Native.Nat.{ℕ, suc, ◌+◌, ◌-◌, ◌≤◌, ◌<◌}
use native.Mathlib.Omega.{arith}
use mathlib.Core.Path.{◌≡◌, sym, ap, ◌∙◌}
use mathlib.Core.List.{List, [], ◌∷◌, ◌++◌}
use lib.ListN.{length, length-append, length-drop, get_or, set, take, drop}
use lib.Seq.{append_snoc, drop-cons, drop_at, get_or-append-add, get_or-drop, length-take-le, set-append_seam, take-suc, take_at}
use Rattle.cell.specs.Coding.{forward}

module _ {A : Type 0} where
  -- lists that are equal from k on have equal elements there
  pub beyond : (l m : List A) (k i : ℕ) (d : A) → drop k l ≡ drop k m → k ≤ i → get_or l i d ≡ get_or m i d
  beyond l m k i d e h =
      let s : k + (i - k) ≡ i = omega arith in
      ap (λ (z : ℕ). get_or l z d) (sym s) ∙ sym (get_or-drop k l (i - k) d) ∙ ap (λ (z : List A). get_or z (i - k) d) e ∙ get_or-drop k m (i - k) d ∙ ap (λ (z : ℕ). get_or m z d) s

  -- ---- c elements that came forward by w
  pub record Came (l : List A) (w c : ℕ) : Type 0 where
    pub long : length (forward w c l) ≡ length l
    pub front : take c (forward w c l) ≡ take c (drop w l)
    pub behind : drop c (forward w c l) ≡ drop c l

  pub came : (l : List A) (w c : ℕ) → c + w ≤ length l → Came l w c
  unfolding forward
  came l w c h =
      let m = length-drop w l in
      let n : length (take c (drop w l)) ≡ c = length-take-le c (drop w l) (omega arith) in
      record {
        long = rw (length-append, length-drop) (omega arith);
        front = take_at (take c (drop w l)) (drop c l) c n;
        behind = drop_at (take c (drop w l)) (drop c l) c n;
      }

  -- one more, read from where it stands now
  pub came_one : (l m : List A) (w n : ℕ) (x : A) → n + w < length l → m ≡ forward w n l → get_or m (n + w) x ≡ x → set m n x ≡ forward w (n + 1) l
  unfolding forward
  came_one l m w n x h is read =
      let front = take n (drop w l) in
      let cut = length-drop w l in
      let long : length front ≡ n = length-take-le n (drop w l) (omega arith) in
      let one : n + 1 ≡ suc n = omega arith in
      let over : w + n ≡ n + w = omega arith in
      let there : get_or l (n + w) x ≡ x =
      sym (ap (λ (k : ℕ). get_or (front ++ drop n l) (k + w) x) (sym long) ∙ get_or-append-add front (drop n l) w x ∙ get_or-drop n l w x)
      ∙ ap (λ (z : List A). get_or z (n + w) x) (sym is) ∙ read in
      let grown : take (n + 1) (drop w l) ≡ front ++ x ∷ [] =
      ap (λ (k : ℕ). take k (drop w l)) one
      ∙ take-suc (drop w l) n x (omega arith)
      ∙ ap (λ (y : A). front ++ y ∷ []) (get_or-drop w l n x ∙ ap (λ (k : ℕ). get_or l k x) over ∙ there) in
      ap (λ (z : List A). set z n x) (is ∙ ap (λ (z : List A). front ++ z) (drop-cons l n x (omega arith)))
      ∙ ap (λ (k : ℕ). set (front ++ get_or l n x ∷ drop (suc n) l) k x) (sym long)
      ∙ set-append_seam front (get_or l n x) (drop (suc n) l) x
      ∙ sym (append_snoc front x (drop (suc n) l))
      ∙ ap (λ (z : List A). z ++ drop (suc n) l) (sym grown)
      ∙ ap (λ (k : ℕ). take (n + 1) (drop w l) ++ drop k l) (sym one)
