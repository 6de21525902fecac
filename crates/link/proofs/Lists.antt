-- A list of calls that were made, by one more; and what its steps say of runs.
use Rattle.std.proofs.Common.{◌≡◌, ℕ, ◌+◌, ◌<◌, List, [], ◌∷◌, ◌++◌, length, take, get_or, Some, None, Option, sym, refl, ap, ◌∙◌, subst}
use Rattle.std.specs.Prelude.{MatchOption}
use Rattle.std.proofs.lemmas.List.{map_push, take_more}
use Rattle.host.specs.declared.note.DoubtNote.{DoubtNote}
use Rattle.law.specs.Runs as law
use Rattle.law.specs.Runs.{World, Limits, Run, after, act, Allowed}
use Rattle.law.specs.Sides.{host_side, tnc_side, Goes}
use Rattle.link.specs.declared.event.Event.{Event}
use Rattle.link.specs.declared.call.Call.{Call}
use Rattle.link.specs.Played.{Both, Step, call_of, law_call, Told, told, LawOf, One, Each, Gave, Seen, GoesOn, Plays}

pub each_more : (s t u : Both) (xs : List Step) (e : Event) → Each s xs t → One t e u → Each s (xs ++ record { event = e; next = u } ∷ []) u
each_more s t u [] e is one = (subst (λ (x : Both). One x e u) (sym is) one, refl)
each_more s t u (x ∷ xs) e each one = (each.0, each_more x.next t u xs e each.1 one)

module _ {W : Type 0} (gives : W → Option DoubtNote → W → Type 0) (sees : W → Event → List ℕ → List ℕ → W → Type 0) where
  pub seen_more : (v u asked saw : W) (xs : List Step) (e : Event) (t : Both) → Seen gives sees v xs u → Gave gives e u asked → sees asked e t.wire t.block saw → Seen gives sees v (xs ++ record { event = e; next = t } ∷ []) saw
  seen_more v u asked saw [] e t is gave told = (asked, saw, subst (λ (x : W). Gave gives e x asked) (sym is) gave, told, refl)
  seen_more v u asked saw (x ∷ xs) e t seen gave told = (seen.0, seen.1, seen.2, seen.3, seen_more seen.1 u asked saw xs e t seen.4 gave told)

-- a step goes on with the run, and the rest with what it then is
goes_by : (s t : Both) (T : Told) (xs : List Step) (k : Option (ℕ → law.Call)) → LawOf k s t T → (setting : ℕ) (l : Limits) (w : World) (r : Run setting l w) → host_side w ≡ s.host → tnc_side w ≡ s.tnc
    → ((v : World) (q : Run setting l v) → host_side v ≡ t.host → tnc_side v ≡ t.tnc → GoesOn t xs q)
    → MatchOption k (GoesOn t xs r) (λ c. (i : ℕ) (ok : Allowed (c i) w) → Goes (c i) r t.host t.tnc T.up T.dn (T.to_tnc w.to_tnc) (T.to_host w.to_host) × GoesOn t xs (after r (c i) ok))
goes_by s t T xs None is setting l w r h n rest = rest w r (h ∙ ap (λ (y : Both). y.host) (sym is)) (n ∙ ap (λ (y : Both). y.tnc) (sym is))
goes_by s t T xs (Some c) holds setting l w r h n rest = λ i ok.
    let g = holds i setting l w r h n ok in
    (g, rest (act (c i) w) (after r (c i) ok) g.host_is g.tnc_is)

pub goes_on : (s t : Both) (xs : List Step) → Each s xs t → (setting : ℕ) (l : Limits) (w : World) (r : Run setting l w) → host_side w ≡ s.host → tnc_side w ≡ s.tnc → GoesOn s xs r
goes_on s t [] each setting l w r h n = tt
goes_on s t (x ∷ xs) each setting l w r h n =
    goes_by s x.next (told x.event x.next) xs (law_call x.event s) each.0.law setting l w r h n (λ v q. goes_on x.next t xs each.1 setting l v q)

-- A LIST THAT WAS PLAYED

module _ {W : Type 0} (gives : W → Option DoubtNote → W → Type 0) (sees : W → Event → List ℕ → List ℕ → W → Type 0) where
  pub none_played : (s : Both) (v : W) → Plays gives sees [] s s v v
  none_played s v = record { steps = []; calls_are = refl; each = refl; seen = refl; law = λ setting l w r h n. tt }

  pub more_played : (calls : List Call) (i : ℕ) (d : Call) (s t u : Both) (v x asked saw : W) (e : Event) → i < length calls → Plays gives sees (take i calls) s t v x
      → call_of e ≡ get_or calls i d → One t e u → Gave gives e x asked → sees asked e u.wire u.block saw → Plays gives sees (take (i + 1) calls) s u v saw
  more_played calls i d s t u v x asked saw e low before is one gave told =
      let step : Step = record { event = e; next = u } in
      let steps = before.steps ++ step ∷ [] in
      let each = each_more s t u before.steps e before.each one in
      record {
        steps = steps;
        calls_are = map_push (λ (y : Step). call_of y.event) before.steps step ∙ ap (λ ks. ks ++ call_of e ∷ []) before.calls_are ∙ ap (λ k. take i calls ++ k ∷ []) is ∙ sym (take_more calls i d low);
        each = each;
        seen = seen_more gives sees v x asked saw before.steps e u before.seen gave told;
        law = goes_on s u steps each;
      }
