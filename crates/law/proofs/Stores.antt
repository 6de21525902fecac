-- One channel of a store after each call on it: what the runs' histories are compared with.
use Rattle.std.proofs.Common.{◌≡◌, ℕ, ◌≤◌, Bool, true, false, cond, ◌&&◌, eqb, ltb, List, [], ◌∷◌, ◌++◌, drop, Ok, Err, Result, sym, refl, ap, ◌∙◌, arith}
use Rattle.std.proofs.lemmas.List.{append_assoc}
use Rattle.std.proofs.lemmas.Bool.{eqb-true, eqb-false, cond-true, le-ltb, lt-ltb, ltb-false, cases_lt}
use Rattle.poll.specs.Channel.{last_channel}
use Rattle.frame.specs.Frame.{longest_block}
use Rattle.store.specs.declared.refusal.Refusal.{Refusal}
use Rattle.store.specs.declared.refusal.Refusal.TheVariants.{BadChannel, NoneWaiting, ShortBuffer}
use Rattle.store.specs.Meaning.{Block, Meaning}
use Rattle.store.specs.Rules as rules
use Rattle.store.specs.Rules.{if_granted, joined, first_answer, copy_source, drop_after, shortened}
use Rattle.store.specs.Calls.{shown_by}
use Rattle.store.proofs.Ways.{drop_goes}
use Rattle.ends.specs.Blocks.{granted, changed, collect_store}

-- drop-first of channel k, seen on channel c
drop_here : (m : Meaning) (k : ℕ) (blocks : List Block) → k ≤ last_channel → m.waiting k ≡ blocks → (drop_after m k).waiting k ≡ drop 1 blocks
drop_here m k [] low e =
    let a : rules.drop_answer m k ≡ Err NoneWaiting = ap rules.granted (rules_first low ∙ ap first_answer e) in
    ap (λ r. (if_granted r (shortened m k) m).waiting k) a ∙ e
  where
    rules_first : k ≤ last_channel → rules.first_waiting m k ≡ first_answer (m.waiting k)
    rules_first l = ap (λ (t : Bool). cond t (Err BadChannel) (first_answer (m.waiting k))) (le-ltb last_channel k l)
drop_here m k (b ∷ blocks) low e =
    ap (λ (x : Meaning). x.waiting k) (drop_goes m k b blocks low e).1 ∙ cond-true _ _ _ (same k)
  where
    same : (n : ℕ) → eqb n n ≡ true
    same n = Rattle.std.proofs.lemmas.Bool.eq-eqb n n refl

drop_apart : (m : Meaning) (c k : ℕ) (r : Result (Unit {0}) Refusal) → eqb c k ≡ false → (if_granted r (shortened m k) m).waiting c ≡ m.waiting c
drop_apart m c k (Ok x) e = ap (λ (t : Bool). cond t (drop 1 (m.waiting k)) (m.waiting c)) e
drop_apart m c k (Err x) e = refl

pub drop_view : (m : Meaning) (c k : ℕ) → c ≤ last_channel → (drop_after m k).waiting c ≡ cond (eqb c k) (drop 1 (m.waiting c)) (m.waiting c)
drop_view m c k low = go (eqb c k) refl
  where
    go : (t : Bool) → eqb c k ≡ t → (drop_after m k).waiting c ≡ cond t (drop 1 (m.waiting c)) (m.waiting c)
    go true e = rw (← (eqb-true c k e)) (drop_here m c (m.waiting c) low refl)
    go false e = drop_apart m c k (rules.drop_answer m k) e

-- a block that joined channel k where that was granted, seen on channel c
pub joined_view : {X E : Type 0} (r : Result X E) (m : Meaning) (c k : ℕ) (b : Block) → (if_granted r (joined m k b) m).waiting c ≡ cond (granted r && eqb c k) (m.waiting c ++ b ∷ []) (m.waiting c)
joined_view (Ok x) m c k b = go (eqb c k) refl
  where
    go : (t : Bool) → eqb c k ≡ t → cond t (m.waiting k ++ b ∷ []) (m.waiting c) ≡ cond t (m.waiting c ++ b ∷ []) (m.waiting c)
    go true e = ap (λ (n : ℕ). m.waiting n ++ b ∷ []) (sym (eqb-true c k e))
    go false e = refl
joined_view (Err x) m c k b = refl

-- what copy-first shows stands first on its channel
first_found : (m : Meaning) (k : ℕ) (t : Bool) (blocks : List Block) (b : Block) → ltb last_channel k ≡ t → m.waiting k ≡ blocks → cond t (Err BadChannel) (first_answer blocks) ≡ Ok b → (k ≤ last_channel) × (m.waiting k ≡ b ∷ drop 1 (m.waiting k))
first_found m k true blocks b e f g = absurd (let z : ◌≡◌ {A = ℕ} 0 1 = cc in omega arith)
first_found m k false [] b e f g = absurd (let z : ◌≡◌ {A = ℕ} 0 1 = cc in omega arith)
first_found m k false (x ∷ blocks) b e f g = let s : x ≡ b = cc in (ltb-false last_channel k e, f ∙ ap (λ (y : Block). y ∷ blocks) s ∙ ap (λ (l : List Block). b ∷ drop 1 l) (sym f))

copy_found : (m : Meaning) (k n : ℕ) (b : Block) → copy_source m k n ≡ Ok b → (k ≤ last_channel) × (m.waiting k ≡ b ∷ drop 1 (m.waiting k))
copy_found m k n b = go (ltb n longest_block)
  where
    go : (t : Bool) → cond t (Err ShortBuffer) (rules.first_waiting m k) ≡ Ok b → (k ≤ last_channel) × (m.waiting k ≡ b ∷ drop 1 (m.waiting k))
    go true g = absurd (let z : ◌≡◌ {A = ℕ} 0 1 = cc in omega arith)
    go false g = first_found m k (ltb last_channel k) (m.waiting k) b refl refl g

-- collect takes a block from the store's front to the end of what was handed out
pub collect_same :
    (collected : ℕ → List Block) (m : Meaning) (c k n : ℕ)
    → c ≤ last_channel
    → collected c ++ m.waiting c ≡ changed (granted (copy_source m k n)) k (λ (l : List Block). l ++ shown_by (copy_source m k n)) collected c ++ (collect_store m k n).waiting c
collect_same collected m c k n low = go (copy_source m k n) refl
  where
    here : (b : Block) (t : Bool) → eqb c k ≡ t → copy_source m k n ≡ Ok b → collected c ++ m.waiting c ≡ cond t (collected c ++ b ∷ []) (collected c) ++ (drop_after m k).waiting c
    here b true e g =
        let ck = eqb-true c k e in
        let f : m.waiting c ≡ b ∷ drop 1 (m.waiting c) = rw ck (copy_found m k n b g).1 in
        ap (λ (l : List Block). collected c ++ l) f
        ∙ sym (append_assoc (collected c) (b ∷ []) (drop 1 (m.waiting c)))
        ∙ ap (λ (l : List Block). (collected c ++ b ∷ []) ++ l) (sym (drop_view m c k low ∙ cond-true _ _ _ e))
    here b false e g = ap (λ (l : List Block). collected c ++ l) (sym (drop_view m c k low ∙ ap (λ (t : Bool). cond t (drop 1 (m.waiting c)) (m.waiting c)) e))

    go : (r : Result Block Refusal) → copy_source m k n ≡ r → collected c ++ m.waiting c ≡ changed (granted r) k (λ (l : List Block). l ++ shown_by r) collected c ++ (if_granted r (drop_after m k) m).waiting c
    go (Ok b) g = here b (eqb c k) refl g
    go (Err e) g = refl
