-- What is given of the numbers from 0 on, one more at a time.
use Rattle.std.proofs.Common.{◌≡◌, ℕ, ◌+◌, suc, zero, List, [], ◌++◌, Option, Some, None, refl, sym, ap, ◌∙◌, arith, append_assoc, append-nil}
use Rattle.std.specs.List.{filter_map, range_with_len, cons_option}
use Rattle.std.specs.Option.{option_to_list}
use Rattle.poll.specs.Channel.{last_channel}
use Rattle.replay.specs.Ending.{channels}

cons_is_append : {X : Type 0} (o : Option X) (xs : List X) → cons_option o xs ≡ option_to_list o ++ xs
cons_is_append None xs = refl
cons_is_append (Some x) xs = refl

from_more : {X : Type 0} (f : ℕ → Option X) (a n : ℕ)
    → filter_map f (range_with_len a (suc n)) ≡ filter_map f (range_with_len a n) ++ option_to_list (f (a + n))
from_more f a zero = let here : a + 0 ≡ a = omega arith in rw here (cons_is_append (f a) [] ∙ append-nil (option_to_list (f a)))
from_more f a (suc n) =
    let there : (a + 1) + n ≡ a + suc n = omega arith in
    cons_is_append (f a) _
    ∙ ap (λ r. option_to_list (f a) ++ r) (from_more f (a + 1) n)
    ∙ rw there (sym (append_assoc (option_to_list (f a)) (filter_map f (range_with_len (a + 1) n)) _))
    ∙ ap (λ r. r ++ option_to_list (f (a + suc n))) (sym (cons_is_append (f a) (filter_map f (range_with_len (a + 1) n))))

-- the list so far, the numbers below n, and what n gives
pub counted_more : {X : Type 0} (f : ℕ → Option X) (n : ℕ) (first so_far : List X)
    → so_far ≡ first ++ filter_map f (range_with_len 0 n)
    → so_far ++ option_to_list (f n) ≡ first ++ filter_map f (range_with_len 0 (n + 1))
counted_more f n first so_far e =
    let here : 0 + n ≡ n = omega arith in
    let next : n + 1 ≡ suc n = omega arith in
    ap (λ r. r ++ option_to_list (f n)) e
    ∙ append_assoc first (filter_map f (range_with_len 0 n)) (option_to_list (f n))
    ∙ ap (λ r. first ++ r) (rw (next) (sym (rw here at (from_more f 0 n))))

-- below the number of channels: of all channels
pub all_channels : {X : Type 0} (f : ℕ → Option X) (n : ℕ) (first lines : List X) → n ≡ last_channel + 1
    → lines ≡ first ++ filter_map f (range_with_len 0 n) → lines ≡ first ++ filter_map f channels
unfolding channels
all_channels f n first lines e h = h ∙ ap (λ m. first ++ filter_map f (range_with_len 0 m)) e
