-- The verdict on a term, from its first part and its children.
use Rattle.std.proofs.Common.{◌≡◌, ℕ, suc, ◌+◌, ◌-◌, ◌≤◌, Bool, true, false, cond, List, [], ◌∷◌, ◌++◌, map, length, IsErrAnd, Ok, Err, Some, None, Option, sym, refl, ap, ◌∙◌, subst, ap₂, arith}
use Rattle.std.proofs.lemmas.Result.{err_from_is_err_and}
use Rattle.std.proofs.lemmas.Bool.{cond-true, cond-false}
use Rattle.fault.specs.Search.{Verdict, refused, and_then, search}
use Rattle.fault.specs.declared.at.At.{At}
use Rattle.fault.specs.declared.claim.ClaimFault.{ClaimFault}
use Rattle.fault.specs.declared.claim.ClaimFault.TheVariants.{Claim}
use Rattle.eff.specs.Sorts.{Sort, expr, list, comp}
use Rattle.eff.specs.Types.{Ty, Dirty}
use Rattle.eff.specs.Types as t
use Rattle.eff.specs.Tables.{Tables, takes, gives, type}
use Rattle.eff.specs.Dirt.{Dirts}
use Rattle.eff.specs.Rules.{Cxt}
use Rattle.eff.specs.Syntax.{head, flatten}
use Rattle.eff.specs.Claims.{parameter}
use Rattle.eff.specs.Labels.{Labelled, var, truth, num, succ, unit, inst, fn, handler, case, nil, if, match, absurd as absurd_at, apply, val, call, bind, rec, handle, erase, columns, claim}
use Rattle.eff.specs.declared.part.Part.{Part}
use Rattle.eff.specs.declared.kind.Kind.{Kind}
use Rattle.eff.specs.declared.kind.Kind.TheVariants as k
use Rattle.sheet.specs.Rows.{Listing}
use Rattle.claim.specs.Checker as s
use Rattle.eff.proofs.Parted.{by_part}
use Rattle.sheet.specs.declared.rows.PartRow.{PartRow}
use Rattle.claim.specs.Placing.{entries, Placed, row, end_of}
use Rattle.eff.specs.Standing.{Standing, stands, standing}
use Rattle.claim.specs.Test.{holds, rule_ok, claimed}
use Rattle.claim.specs.Judging.{WayStands, WayVerdict, Judged, line_of}
use Rattle.claim.specs.Node.{way, claim_at, node_at}
use Rattle.claim.specs.Decoded.{decoded}
use Rattle.claim.specs.declared.form.Form.{Form}
use Rattle.claim.specs.declared.checker.Checker.{Checker}
use Rattle.sheet.specs.declared.dirty.Dirty.{Dirty as Claimed}
use Rattle.claim.specs.declared.node.Way.{Way}
use Rattle.claim.proofs.Ruling.{rule_holds}
use Rattle.claim.proofs.Laid.{cells, cells_are, placed_laid, placed_first, placed_a, placed_b, kind_is, laid_ends, one, two, three, comp_claim, list_claim}

-- a search by a test that does not look at numbers
module _ {F R : Type 0} (f : F) (ok : R → Bool) where
  abbrev seek : ℕ → ℕ → List R → Verdict F
  seek line n xs = search f (λ _ r. ok r) line n xs

  any : (line n m : ℕ) (xs : List R) → seek line n xs ≡ seek line m xs
  any line n m [] = refl
  any line n m (x ∷ xs) = ap (λ v. cond (ok x) v (refused line f)) (any (line + 1) (n + 1) (m + 1) xs)

  seek_append : (line n : ℕ) (xs ys : List R) → seek line n (xs ++ ys) ≡ and_then (seek line 0 xs) (seek (line + length xs) 0 ys)
  seek_append line n [] ys = any line n 0 ys ∙ ap (λ m. seek m 0 ys) (let q : line ≡ line + 0 = omega arith in q)
  seek_append line n (x ∷ xs) ys = go (ok x) (seek_append (line + 1) (n + 1) xs ys)
    where
      go : (b : Bool) → seek (line + 1) (n + 1) (xs ++ ys) ≡ and_then (seek (line + 1) 0 xs) (seek (line + 1 + length xs) 0 ys) → cond b (seek (line + 1) (n + 1) (xs ++ ys)) (refused line f) ≡ and_then (cond b (seek (line + 1) 1 xs) (refused line f)) (seek (line + suc (length xs)) 0 ys)
      go true ih = ih ∙ ap₂ and_then (any (line + 1) 0 1 xs) (ap (λ m. seek m 0 ys) (let q : line + 1 + length xs ≡ line + suc (length xs) = omega arith in q))
      go false ih = refl

-- a child to be judged
pub record Want : Type 0 where
  pub sort : Sort
  pub at : ℕ
  pub context : Cxt

abbrev pub want : Sort → ℕ → Cxt → Want
want u r Γ = record { sort = u; at = r; context = Γ }

module _ (x : Checker) where
  abbrev l : Listing
  l = s.rows x

  abbrev T : Tables
  T = s.declared x

  abbrev D : Dirts
  D = s.dirts x

  -- children judged in order, up to the first that is refused
  abbrev pub Chain : List Want → Verdict ClaimFault → Type 0
  Chain [] v = v ≡ Ok tt
  Chain (w ∷ ws) v = (u : Verdict ClaimFault) × Judged x w.sort w.context w.at u × (u ≡ Ok tt → Chain ws v) × ((e : At ClaimFault) → u ≡ Err e → v ≡ u)

  -- the same, by name
  pub record Chained (ws : List Want) (v : Verdict ClaimFault) : Type 0 where
    pub chain : Chain ws v

  -- one child, and then the others
  then_more : (u v w r : Verdict ClaimFault) → u ≡ w → (u ≡ Ok tt → v ≡ r) → ((e : At ClaimFault) → u ≡ Err e → v ≡ u) → v ≡ and_then w r
  then_more (Ok z) v w r e f g = f refl ∙ ap (λ y. and_then y r) e
  then_more (Err z) v w r e f g = g z refl ∙ ap (λ y. and_then y r) e

  alone : (u v : Verdict ClaimFault) → (u ≡ Ok tt → v ≡ Ok tt) → ((e : At ClaimFault) → u ≡ Err e → v ≡ u) → v ≡ u
  alone (Ok z) v f g = f refl
  alone (Err z) v f g = g z refl

  -- as many parts as entries
  entries_long : (qs : List Part) (cs : List Dirty) → length cs ≡ length qs → length (entries qs cs) ≡ length qs
  entries_long [] cs e = refl
  entries_long (q ∷ qs) [] e = absurd (omega arith)
  entries_long (q ∷ qs) (c ∷ cs) e = ap suc (entries_long qs cs (omega arith))

  sizes : {u : Sort} (Γ : Cxt) (v : Labelled u) → length (standing T Γ v) ≡ length (cells v)
  sizes {u} Γ v = (by_part u v).parts T Γ ∙ sym (entries_long (flatten (erase v)) (columns v) (by_part u v).claims) ∙ ap length (cells_are v)

  -- the line after a term
  next_line : {u : Sort} (Γ : Cxt) (r : ℕ) (v : Labelled u) → Placed l u r v → line_of x r + length (standing T Γ v) ≡ line_of x (end_of l r)
  next_line Γ r v h = let e = laid_ends l r v (placed_laid l r v h) in omega (arith, e, sizes Γ v)

  abbrev sought : ℕ → ℕ → List Standing → Verdict ClaimFault
  sought line n ys = search Claim (λ _ y. rule_ok T D y) line n ys

  -- what the nil of a case's list claims
  abbrev nil_of : Way → Claimed
  nil_of n = claim_at l (end_of l n.third_at - 1)

  module _ (Γ : Cxt) (r : ℕ) (n : Way) where
    -- the children of a node of each kind
    abbrev pub wants : Kind → List Want
    wants k.Variable = []
    wants k.Truth = []
    wants k.Numeral = []
    wants k.Successor = want expr (r + 1) Γ ∷ []
    wants k.Unit = []
    wants k.Instance = []
    wants k.Function = want comp (r + 1) (type T n.a ∷ Γ) ∷ []
    wants k.Handler = want comp (r + 1) (type T n.a ∷ Γ) ∷ want list n.second_at Γ ∷ []
    wants k.Case = want expr (r + 1) Γ
        ∷ want comp n.second_at (t.fun (type T (gives T n.a n.b)) (type T (nil_of n).ty) (nil_of n).dirt ∷ type T (takes T n.a n.b) ∷ Γ)
        ∷ want list n.third_at Γ ∷ []
    wants k.Nil = []
    wants k.If = want expr (r + 1) Γ ∷ want comp n.second_at Γ ∷ want comp n.third_at Γ ∷ []
    wants k.Match = want expr (r + 1) Γ ∷ want comp n.second_at Γ ∷ want comp n.third_at (t.nat ∷ Γ) ∷ []
    wants k.Absurd = want expr (r + 1) Γ ∷ []
    wants k.Apply = want expr (r + 1) Γ ∷ want expr n.second_at Γ ∷ []
    wants k.Val = want expr (r + 1) Γ ∷ []
    wants k.Call = want expr (r + 1) Γ ∷ want expr n.second_at Γ ∷ want comp n.third_at (type T (gives T n.a n.b) ∷ Γ) ∷ []
    wants k.Let = want comp (r + 1) Γ ∷ want comp n.second_at (type T n.first_ty ∷ Γ) ∷ []
    wants k.LetRec = want comp (r + 1) (type T n.a ∷ parameter (type T n.a) ∷ Γ) ∷ want comp n.second_at (type T n.a ∷ Γ) ∷ []
    wants k.With = want expr (r + 1) Γ ∷ want comp n.second_at Γ ∷ []

  -- children in their contexts, placed one after another from the part q on
  abbrev Lie : ℕ → List Standing → Type 0
  Lie q [] = Unit {0}
  Lie q (k ∷ ks) = Placed l k.sort q k.part × Lie (end_of l q) ks

  abbrev asked : ℕ → List Standing → List Want
  asked q [] = []
  asked q (k ∷ ks) = want k.sort q k.context ∷ asked (end_of l q) ks

  -- their parts
  abbrev below : List Standing → List Standing
  below [] = []
  below (k ∷ []) = standing T k.context k.part
  below (k ∷ k' ∷ ks) = standing T k.context k.part ++ below (k' ∷ ks)

  module _ (r : ℕ) (v : Verdict ClaimFault) where
    first_line : line_of x r + 1 ≡ line_of x (r + 1)
    first_line = omega arith

    kids : (q : ℕ) (k : Standing) (ks : List Standing) → Lie q (k ∷ ks) → Chain (asked q (k ∷ ks)) v → v ≡ sought (line_of x q) 0 (below (k ∷ ks))
    kids q k [] h c = alone c.0 v c.2 c.3 ∙ c.1.says k.part h.0
    kids q k (k' ∷ ks) h c =
        then_more c.0 v _ (sought (line_of x (end_of l q)) 0 (below (k' ∷ ks))) (c.1.says k.part h.0) (λ e. kids (end_of l q) k' ks h.1 (c.2 e)) c.3
        ∙ ap (λ m. and_then (sought (line_of x q) 0 (standing T k.context k.part)) (sought m 0 (below (k' ∷ ks)))) (sym (next_line k.context q k.part h.0))
        ∙ sym (seek_append Claim (rule_ok T D) (line_of x q) 0 (standing T k.context k.part) (below (k' ∷ ks)))

    -- the children of a first part that passes
    next : (b : Bool) → b ≡ true → (k : Standing) (ks : List Standing) → Lie (r + 1) (k ∷ ks) → Chain (asked (r + 1) (k ∷ ks)) v
        → v ≡ cond b (sought (line_of x r + 1) 1 (below (k ∷ ks))) (refused (line_of x r) Claim)
    next b ok k ks h c =
        kids (r + 1) k ks h c ∙ ap (λ m. sought m 0 (below (k ∷ ks))) (sym first_line) ∙ any Claim (rule_ok T D) (line_of x r + 1) 0 1 (below (k ∷ ks)) ∙ sym (cond-true _ _ _ ok)

    leaf : (b : Bool) → b ≡ true → v ≡ Ok tt → v ≡ cond b (Ok tt) (refused (line_of x r) Claim)
    leaf b e q = q ∙ sym (cond-true _ _ _ e)

    module _ (Γ : Cxt) where
      abbrev p0 : PartRow
      p0 = row l r

      abbrev n2 : ℕ
      n2 = end_of l (r + 1)

      abbrev n3 : ℕ
      n3 = end_of l n2

      walked : {u : Sort} (w : Labelled u) → Placed l u r w → Chain (wants Γ r (way (node_at l r)) (head (erase w)).kind) v → holds T D Γ w ≡ true → v ≡ claimed T D (line_of x r) Γ w
      walked (var A n) h c ok = leaf _ ok c
      walked (truth A b) h c ok = leaf _ ok c
      walked (num A n) h c ok = leaf _ ok c
      walked (succ A e) h c ok = let y = one l r _ e (placed_laid l r (succ A e) h) in (next _ ok (stands Γ e) [] (y.first, tt) c)
      walked (unit A) h c ok = leaf _ ok c
      walked (inst A i) h c ok = leaf _ ok c
      walked (fn A a d) h c ok =
          let y = one l r _ d (placed_laid l r (fn A a d) h) in
          (next _ ok (stands (type T a ∷ Γ) d) [] (y.first, tt) (subst (λ n. Chain (want comp (r + 1) (type T n ∷ Γ) ∷ []) v) (placed_a l r (fn A a d) h) c))
      walked (handler A a d cs) h c ok =
          let y = two l r _ d cs (placed_laid l r (handler A a d cs) h) in
          (next _ ok (stands (type T a ∷ Γ) d) (stands Γ cs ∷ []) (y.first, (y.second, tt))
          (subst (λ n. Chain (want comp (r + 1) (type T n ∷ Γ) ∷ want list n2 Γ ∷ []) v) (placed_a l r (handler A a d cs) h) c))
      walked (case e op i d cs) h c ok =
          let y = three l r _ i d cs (placed_laid l r (case e op i d cs) h) in
          (next _ ok (stands Γ i) (stands (t.fun (type T (gives T e op)) (claim cs).0 (claim cs).1 ∷ type T (takes T e op) ∷ Γ) d ∷ stands Γ cs ∷ []) (y.first, (y.second, (y.third, tt)))
          (subst (λ n. Chain (want expr (r + 1) Γ ∷ want comp n2 (t.fun (type T (gives T n op)) (claim cs).0 (claim cs).1 ∷ type T (takes T n op) ∷ Γ) ∷ want list n3 Γ ∷ []) v) (placed_a l r (case e op i d cs) h)
          (subst (λ m. Chain (want expr (r + 1) Γ ∷ want comp n2 (t.fun (type T (gives T p0.a m)) (claim cs).0 (claim cs).1 ∷ type T (takes T p0.a m) ∷ Γ) ∷ want list n3 Γ ∷ []) v) (placed_b l r (case e op i d cs) h)
          (subst (λ (C : Dirty). Chain (want expr (r + 1) Γ ∷ want comp n2 (t.fun (type T (gives T p0.a p0.b)) C.0 C.1 ∷ type T (takes T p0.a p0.b) ∷ Γ) ∷ want list n3 Γ ∷ []) v) (list_claim l n3 cs y.third) c))))
      walked (nil C) h c ok = leaf _ ok c
      walked (if C e d d') h c ok =
          let y = three l r _ e d d' (placed_laid l r (if C e d d') h) in (next _ ok (stands Γ e) (stands Γ d ∷ stands Γ d' ∷ []) (y.first, (y.second, (y.third, tt))) c)
      walked (match C e d d') h c ok =
          let y = three l r _ e d d' (placed_laid l r (match C e d d') h) in (next _ ok (stands Γ e) (stands Γ d ∷ stands (t.nat ∷ Γ) d' ∷ []) (y.first, (y.second, (y.third, tt))) c)
      walked (absurd_at C e) h c ok = let y = one l r _ e (placed_laid l r (absurd_at C e) h) in (next _ ok (stands Γ e) [] (y.first, tt) c)
      walked (apply C e f) h c ok = let y = two l r _ e f (placed_laid l r (apply C e f) h) in (next _ ok (stands Γ e) (stands Γ f ∷ []) (y.first, (y.second, tt)) c)
      walked (val C e) h c ok = let y = one l r _ e (placed_laid l r (val C e) h) in (next _ ok (stands Γ e) [] (y.first, tt) c)
      walked (call C e op i w d) h c ok =
          let y = three l r _ i w d (placed_laid l r (call C e op i w d) h) in
          (next _ ok (stands Γ i) (stands Γ w ∷ stands (type T (gives T e op) ∷ Γ) d ∷ []) (y.first, (y.second, (y.third, tt)))
          (subst (λ n. Chain (want expr (r + 1) Γ ∷ want expr n2 Γ ∷ want comp n3 (type T (gives T n op) ∷ Γ) ∷ []) v) (placed_a l r (call C e op i w d) h)
          (subst (λ m. Chain (want expr (r + 1) Γ ∷ want expr n2 Γ ∷ want comp n3 (type T (gives T p0.a m) ∷ Γ) ∷ []) v) (placed_b l r (call C e op i w d) h) c)))
      walked (bind C d d') h c ok =
          let y = two l r _ d d' (placed_laid l r (bind C d d') h) in
          (next _ ok (stands Γ d) (stands ((claim d).0 ∷ Γ) d' ∷ []) (y.first, (y.second, tt))
          (subst (λ (X : Dirty). Chain (want comp (r + 1) Γ ∷ want comp n2 (X.0 ∷ Γ) ∷ []) v) (comp_claim l (r + 1) d y.first) c))
      walked (rec C a d d') h c ok =
          let y = two l r _ d d' (placed_laid l r (rec C a d d') h) in
          (next _ ok (stands (type T a ∷ parameter (type T a) ∷ Γ) d) (stands (type T a ∷ Γ) d' ∷ []) (y.first, (y.second, tt))
          (subst (λ n. Chain (want comp (r + 1) (type T n ∷ parameter (type T n) ∷ Γ) ∷ want comp n2 (type T n ∷ Γ) ∷ []) v) (placed_a l r (rec C a d d') h) c))
      walked (handle C e d) h c ok = let y = two l r _ e d (placed_laid l r (handle C e d) h) in (next _ ok (stands Γ e) (stands Γ d ∷ []) (y.first, (y.second, tt)) c)

-- a first part that does not meet its rule
first_fails : {u : Sort} (T : Tables) (D : Dirts) (line : ℕ) (Γ : Cxt) (w : Labelled u) → holds T D Γ w ≡ false → claimed T D line Γ w ≡ refused line Claim
first_fails T D line Γ (var A n) h = cond-false _ _ _ h
first_fails T D line Γ (truth A b) h = cond-false _ _ _ h
first_fails T D line Γ (num A n) h = cond-false _ _ _ h
first_fails T D line Γ (succ A e) h = cond-false _ _ _ h
first_fails T D line Γ (unit A) h = cond-false _ _ _ h
first_fails T D line Γ (inst A i) h = cond-false _ _ _ h
first_fails T D line Γ (fn A a c) h = cond-false _ _ _ h
first_fails T D line Γ (handler A a c cs) h = cond-false _ _ _ h
first_fails T D line Γ (case e op i c cs) h = cond-false _ _ _ h
first_fails T D line Γ (nil C) h = cond-false _ _ _ h
first_fails T D line Γ (if C e c c') h = cond-false _ _ _ h
first_fails T D line Γ (match C e c c') h = cond-false _ _ _ h
first_fails T D line Γ (absurd_at C e) h = cond-false _ _ _ h
first_fails T D line Γ (apply C e f) h = cond-false _ _ _ h
first_fails T D line Γ (val C e) h = cond-false _ _ _ h
first_fails T D line Γ (call C e op i w c) h = cond-false _ _ _ h
first_fails T D line Γ (bind C c c') h = cond-false _ _ _ h
first_fails T D line Γ (rec C a c c') h = cond-false _ _ _ h
first_fails T D line Γ (handle C e c) h = cond-false _ _ _ h

module _ {x : Checker} where
  pub last : {w : Want} {v : Verdict ClaimFault} → Judged x w.sort w.context w.at v → Chained x (w ∷ []) v
  last {w} {v} j = record { chain = (v, j, λ e. e, λ e q. refl) }

  pub onward : {w : Want} {ws : List Want} {u v : Verdict ClaimFault} → u ≡ Ok tt → Judged x w.sort w.context w.at u → Chained x ws v → Chained x (w ∷ ws) v
  onward {w} {ws} {u} {v} q j c = record { chain = (u, j, λ e. c.chain, λ e p. absurd (let o : ◌≡◌ {A = ℕ} 0 1 = cc in omega arith)) }

  pub broken : {w : Want} {ws : List Want} {u v : Verdict ClaimFault} (e : At ClaimFault) → u ≡ Err e → IsErrAnd v (λ y. y ≡ e) → Judged x w.sort w.context w.at u → Chained x (w ∷ ws) v
  broken {w} {ws} {u} {v} e q b j = record { chain = (u, j, λ p. absurd (let o : ◌≡◌ {A = ℕ} 0 1 = cc in omega arith), λ f p. (let z = err_from_is_err_and v b in z.1 ∙ ap Err z.2 ∙ sym q)) }

  -- under one name more, and under two
  pub under : {u : Sort} {f : Form} {fs gs : List Form} {A : Ty} {r : ℕ} {v : Verdict ClaimFault} → gs ≡ f ∷ fs → decoded (s.declared x) f ≡ A
      → Judged x u (map (decoded (s.declared x)) gs) r v → Judged x u (A ∷ map (decoded (s.declared x)) fs) r v
  under {u} {f} {fs} {gs} {A} {r} {v} e q j = subst (λ Γ. Judged x u Γ r v) (ap (map (decoded (s.declared x))) e ∙ ap (λ X. X ∷ map (decoded (s.declared x)) fs) q) j

  pub under_2 : {u : Sort} {f g : Form} {fs gs hs : List Form} {A B : Ty} {r : ℕ} {v : Verdict ClaimFault} → gs ≡ f ∷ fs → hs ≡ g ∷ gs → decoded (s.declared x) f ≡ A → decoded (s.declared x) g ≡ B
      → Judged x u (map (decoded (s.declared x)) hs) r v → Judged x u (B ∷ A ∷ map (decoded (s.declared x)) fs) r v
  under_2 {u} {f} {g} {fs} {gs} {hs} {A} {B} {r} {v} e d q p j =
      subst (λ Γ. Judged x u Γ r v) (ap (map (decoded (s.declared x))) (d ∙ ap (λ ks. g ∷ ks) e) ∙ ap₂ (λ X Y. Y ∷ X ∷ map (decoded (s.declared x)) fs) q p) j

  module _ {Γ : Cxt} {r : ℕ} {u : Sort} where
    -- past the last part
    pub past_end : {v : Verdict ClaimFault} {o : Option Way} → o ≡ None → WayVerdict x Γ r (Ok o) → Judged x u Γ r v
    past_end e h = record {
      says = λ w p. let past : length (s.rows x).parts ≤ r = subst (λ o. WayVerdict x Γ r (Ok o)) e h in absurd (omega (arith, (placed_first (s.rows x) r w p).short));
    }

    -- a part that does not meet its rule
    pub fails : {v : Verdict ClaimFault} (e : At ClaimFault) → IsErrAnd v (λ f. f ≡ e) → WayVerdict x Γ r (Err e) → Judged x u Γ r v
    fails {v} e q h = record {
      says = λ w p.
          let z = err_from_is_err_and v q in
          let no_rule = rule_holds x Γ r w p false h.0 in
          z.1 ∙ ap Err (z.2 ∙ h.1) ∙ sym (first_fails (s.declared x) (s.dirts x) (line_of x r) Γ w (sym no_rule));
    }

    module _ {n : Way} (here : WayStands x Γ r n) where
      tested : (w : Labelled u) → Placed (s.rows x) u r w → holds (s.declared x) (s.dirts x) Γ w ≡ true
      tested w p = sym (rule_holds x Γ r w p true here.rule)

      kind_here : (w : Labelled u) → Placed (s.rows x) u r w → n.kind ≡ (head (erase w)).kind
      kind_here w p = ap (λ (m : Way). m.kind) here.is ∙ kind_is (s.rows x) r w p

      by_children : {v : Verdict ClaimFault} (w : Labelled u) → Placed (s.rows x) u r w → Chain x (wants x Γ r n (head (erase w)).kind) v
          → v ≡ claimed (s.declared x) (s.dirts x) (line_of x r) Γ w
      by_children {v} w p c = walked x r v Γ w p (subst (λ m. Chain x (wants x Γ r m (head (erase w)).kind) v) here.is c) (tested w p)

      -- a part of a kind, by its children
      arm_at : {v : Verdict ClaimFault} (j : Kind) → n.kind ≡ j → Chained x (wants x Γ r n j) v → Judged x u Γ r v
      arm_at {v} j e c = record { says = λ w p. by_children w p (subst (λ k. Chain x (wants x Γ r n k) v) (sym e ∙ kind_here w p) c.chain) }

      -- a part without children, or none that can stand here
      quiet : {v : Verdict ClaimFault} → ((w : Labelled u) → n.kind ≡ (head (erase w)).kind → wants x Γ r n (head (erase w)).kind ≡ []) → v ≡ Ok tt → Judged x u Γ r v
      quiet {v} q e = record { says = λ w p. by_children w p (subst (λ ws. Chain x ws v) (sym (q w (kind_here w p))) e) }

-- the node that is checked
found : {x : Checker} {Γ : Cxt} {r : ℕ} {o : Option Way} {n : Way} → o ≡ Some n → WayVerdict x Γ r (Ok o) → WayStands x Γ r n
found {x} {Γ} {r} {o} {n} e h = subst (λ p. WayVerdict x Γ r (Ok p)) e h

pub arm : {x : Checker} {Γ : Cxt} {r : ℕ} {u : Sort} {v : Verdict ClaimFault} {o : Option Way} {n : Way} → o ≡ Some n → WayVerdict x Γ r (Ok o) → (j : Kind) → n.kind ≡ j → Chained x (wants x Γ r n j) v → Judged x u Γ r v
arm e h j k c = arm_at (found e h) j k c

-- the kinds without children
module _ {x : Checker} {Γ : Cxt} {r : ℕ} {n : Way} {o : Option Way} (some : o ≡ Some n) (checked : WayVerdict x Γ r (Ok o)) where
  pub quiet_expr : (n.kind ≡ k.Successor → ⊥) → (n.kind ≡ k.Function → ⊥) → (n.kind ≡ k.Handler → ⊥) → Judged x expr Γ r (Ok tt)
  quiet_expr not_successor not_function not_handler = quiet (found some checked) go refl
    where
      go : (w : Labelled expr) → n.kind ≡ (head (erase w)).kind → wants x Γ r n (head (erase w)).kind ≡ []
      go (var A i) e = refl
      go (truth A z) e = refl
      go (num A i) e = refl
      go (succ A f) e = absurd (not_successor e)
      go (unit A) e = refl
      go (inst A i) e = refl
      go (fn A i f) e = absurd (not_function e)
      go (handler A i f cs) e = absurd (not_handler e)

  pub quiet_list : (n.kind ≡ k.Case → ⊥) → Judged x list Γ r (Ok tt)
  quiet_list not_case = quiet (found some checked) go refl
    where
      go : (w : Labelled list) → n.kind ≡ (head (erase w)).kind → wants x Γ r n (head (erase w)).kind ≡ []
      go (nil C) e = refl
      go (case f op y c cs) e = absurd (not_case e)

  pub quiet_comp : (n.kind ≡ k.If → ⊥) → (n.kind ≡ k.Match → ⊥) → (n.kind ≡ k.Absurd → ⊥) → (n.kind ≡ k.Val → ⊥) → (n.kind ≡ k.Apply → ⊥) → (n.kind ≡ k.Call → ⊥) → (n.kind ≡ k.Let → ⊥) → (n.kind ≡ k.LetRec → ⊥) → (n.kind ≡ k.With → ⊥) → Judged x comp Γ r (Ok tt)
  quiet_comp not_if not_match not_absurd not_val not_apply not_call not_let not_letrec not_with = quiet (found some checked) go refl
    where
      go : (w : Labelled comp) → n.kind ≡ (head (erase w)).kind → wants x Γ r n (head (erase w)).kind ≡ []
      go (if C y z w) e = absurd (not_if e)
      go (match C y z w) e = absurd (not_match e)
      go (absurd_at C y) e = absurd (not_absurd e)
      go (apply C y z) e = absurd (not_apply e)
      go (val C y) e = absurd (not_val e)
      go (call C f op y z w) e = absurd (not_call e)
      go (bind C y z) e = absurd (not_let e)
      go (rec C i y z) e = absurd (not_letrec e)
      go (handle C y z) e = absurd (not_with e)
