-- Rows read as a labelled term, child by child.
use Rattle.std.proofs.Common.{◌≡◌, ℕ, suc, ◌+◌, ◌-◌, ◌<◌, List, [], ◌∷◌, ◌++◌, map, length, drop, sym, refl, ap, ◌∙◌, subst, ap₂, append_assoc, append-nil, arith, length-append}
use native.Mathlib.Decide.{dec_lt}
use Rattle.std.proofs.lemmas.List.{drop_more, drop_all, map-append}
use Rattle.eff.specs.Sorts.{Sort, expr, list, comp}
use Rattle.eff.specs.Types.{Dirty, bool}
use Rattle.eff.specs.Kinds.{number, kinded}
use Rattle.eff.proofs.KindNumbers.{numbers}
use Rattle.eff.specs.Syntax.{part, digit, flatten, head}
use Rattle.eff.specs.Labels.{Labelled, var, truth, num, succ, unit, inst, fn, handler, case, nil, if, match, absurd as absurd_at, apply, val, call, bind, rec, handle, erase, claim, columns}
use Rattle.eff.specs.declared.part.Part.{Part}
use Rattle.eff.specs.declared.kind.Kind.TheVariants as k
use Rattle.sheet.specs.declared.rows.PartRow.{PartRow}
use Rattle.sheet.specs.Rows.{Listing, part_of}
use Rattle.claim.specs.Placing.{Entry, labelled, entries, entries_of, claim_of, entry, Placed, extent, kind_of, end_of, row}
use Rattle.claim.specs.Recipes.{kind_or}

-- the entries of a term, by its children
abbrev pub cells : {s : Sort} → Labelled s → List Entry
cells (var A n) = labelled (part k.Variable n 0) (A, 0) ∷ []
cells (truth A b) = labelled (part k.Truth (digit b) 0) (A, 0) ∷ []
cells (num A n) = labelled (part k.Numeral n 0) (A, 0) ∷ []
cells (succ A e) = labelled (part k.Successor 0 0) (A, 0) ∷ cells e
cells (unit A) = labelled (part k.Unit 0 0) (A, 0) ∷ []
cells (inst A i) = labelled (part k.Instance i 0) (A, 0) ∷ []
cells (fn A a c) = labelled (part k.Function a 0) (A, 0) ∷ cells c
cells (handler A a c cs) = labelled (part k.Handler a 0) (A, 0) ∷ (cells c ++ cells cs)
cells (case e op i c cs) = labelled (part k.Case e op) (bool, 0) ∷ (cells i ++ (cells c ++ cells cs))
cells (nil C) = labelled (part k.Nil 0 0) C ∷ []
cells (if C e c c') = labelled (part k.If 0 0) C ∷ (cells e ++ (cells c ++ cells c'))
cells (match C e c c') = labelled (part k.Match 0 0) C ∷ (cells e ++ (cells c ++ cells c'))
cells (absurd_at C e) = labelled (part k.Absurd 0 0) C ∷ cells e
cells (apply C e f) = labelled (part k.Apply 0 0) C ∷ (cells e ++ cells f)
cells (val C e) = labelled (part k.Val 0 0) C ∷ cells e
cells (call C e op i w c) = labelled (part k.Call e op) C ∷ (cells i ++ (cells w ++ cells c))
cells (bind C c c') = labelled (part k.Let 0 0) C ∷ (cells c ++ cells c')
cells (rec C a c c') = labelled (part k.LetRec a 0) C ∷ (cells c ++ cells c')
cells (handle C e c) = labelled (part k.With 0 0) C ∷ (cells e ++ cells c)

-- parts with claims, a term in front
record Zips (fs : List Part) (cs : List Dirty) (xs : List Entry) : Type 0 where
  before : (ps : List Part) (ds : List Dirty) → entries (fs ++ ps) (cs ++ ds) ≡ xs ++ entries ps ds

zip_0 : (p : Part) (C : Dirty) → Zips (p ∷ []) (C ∷ []) (labelled p C ∷ [])
zip_0 p C = record { before = λ ps ds. refl }

zip_1 : {fs : List Part} {cs : List Dirty} {xs : List Entry} (p : Part) (C : Dirty) → Zips fs cs xs → Zips (p ∷ fs) (C ∷ cs) (labelled p C ∷ xs)
zip_1 p C z = record { before = λ ps ds. ap (λ ys. labelled p C ∷ ys) (z.before ps ds) }

zip_2 : {fs gs : List Part} {cs ds : List Dirty} {xs ys : List Entry} → Zips fs cs xs → Zips gs ds ys → Zips (fs ++ gs) (cs ++ ds) (xs ++ ys)
zip_2 {fs} {gs} {cs} {ds} {xs} {ys} z w = record {
  before = λ ps es.
      ap₂ entries (append_assoc fs gs ps) (append_assoc cs ds es) ∙ z.before (gs ++ ps) (ds ++ es) ∙ ap (λ r. xs ++ r) (w.before ps es) ∙ sym (append_assoc xs ys (entries ps es));
}

zips : {s : Sort} (t : Labelled s) → Zips (flatten (erase t)) (columns t) (cells t)
zips (var A n) = zip_0 _ _
zips (truth A b) = zip_0 _ _
zips (num A n) = zip_0 _ _
zips (succ A e) = zip_1 _ _ (zips e)
zips (unit A) = zip_0 _ _
zips (inst A i) = zip_0 _ _
zips (fn A a c) = zip_1 _ _ (zips c)
zips (handler A a c cs) = zip_1 _ _ (zip_2 (zips c) (zips cs))
zips (case e op i c cs) = zip_1 _ _ (zip_2 (zips i) (zip_2 (zips c) (zips cs)))
zips (nil C) = zip_0 _ _
zips (if C e c c') = zip_1 _ _ (zip_2 (zips e) (zip_2 (zips c) (zips c')))
zips (match C e c c') = zip_1 _ _ (zip_2 (zips e) (zip_2 (zips c) (zips c')))
zips (absurd_at C e) = zip_1 _ _ (zips e)
zips (apply C e f) = zip_1 _ _ (zip_2 (zips e) (zips f))
zips (val C e) = zip_1 _ _ (zips e)
zips (call C e op i w c) = zip_1 _ _ (zip_2 (zips i) (zip_2 (zips w) (zips c)))
zips (bind C c c') = zip_1 _ _ (zip_2 (zips c) (zips c'))
zips (rec C a c c') = zip_1 _ _ (zip_2 (zips c) (zips c'))
zips (handle C e c) = zip_1 _ _ (zip_2 (zips e) (zips c))

pub cells_are : {s : Sort} (t : Labelled s) → entries_of t ≡ cells t
cells_are t = ap₂ entries (sym (append-nil (flatten (erase t)))) (sym (append-nil (columns t))) ∙ (zips t).before [] [] ∙ append-nil (cells t)

-- rows that begin with these entries
pub record Laid (l : Listing) (r : ℕ) (xs : List Entry) : Type 0 where
  pub rest : List Entry
  pub reads : map (entry l) (drop r l.parts) ≡ xs ++ rest

pub record First (l : Listing) (r : ℕ) (x : Entry) (xs : List Entry) : Type 0 where
  pub short : r < length l.parts
  pub is : entry l (row l r) ≡ x
  pub below : Laid l (r + 1) xs

module _ (l : Listing) where
  no_more : {X : Type 0} (x : Entry) (xs : List Entry) → ◌≡◌ {A = List Entry} [] (x ∷ xs) → X
  no_more x xs e = let z : ◌≡◌ {A = ℕ} 0 1 = cc in absurd (omega arith)

  pub laid_first : (r : ℕ) (x : Entry) (xs : List Entry) → Laid l r (x ∷ xs) → First l r x xs
  laid_first r x xs h =
      elim (dec_lt r (length l.parts)) [
        | yes m ↦
            let e : entry l (row l r) ∷ map (entry l) (drop (r + 1) l.parts) ≡ x ∷ (xs ++ h.rest) = sym (ap (map (entry l)) (drop_more l.parts r (part_of []) m)) ∙ h.reads in
            record { short = m; is = cc; below = record { rest = h.rest; reads = cc } }
        | no m ↦ no_more x (xs ++ h.rest) (sym (ap (map (entry l)) (drop_all r l.parts (omega arith))) ∙ h.reads)
      ]

  -- the entries, and those after them
  pub laid_left : (r : ℕ) (xs ys : List Entry) → Laid l r (xs ++ ys) → Laid l r xs
  laid_left r xs ys h = record { rest = ys ++ h.rest; reads = h.reads ∙ append_assoc xs ys h.rest }

  pub laid_right : (r : ℕ) (xs ys : List Entry) → Laid l r (xs ++ ys) → Laid l (r + length xs) ys
  laid_right r [] ys h = subst (λ n. Laid l n ys) (let q : r ≡ r + 0 = omega arith in q) h
  laid_right r (x ∷ xs) ys h = subst (λ n. Laid l n ys) (let q : r + 1 + length xs ≡ r + suc (length xs) = omega arith in q) (laid_right (r + 1) xs ys (laid_first r x (xs ++ ys) h).below)

  pub placed_laid : {s : Sort} (r : ℕ) (t : Labelled s) → Placed l s r t → Laid l r (cells t)
  placed_laid r t h = record { rest = h.rest; reads = h.reads ∙ ap (λ xs. xs ++ h.rest) (cells_are t) }

  pub laid_placed : {s : Sort} (r : ℕ) (t : Labelled s) → Laid l r (cells t) → Placed l s r t
  laid_placed r t h = record { rest = h.rest; reads = h.reads ∙ ap (λ xs. xs ++ h.rest) (sym (cells_are t)) }

-- the kinds of entries
abbrev kind_of_entry : Entry → ℕ
kind_of_entry x = x.kind

-- a term's entries are an extent of one
record Spans (xs : List Entry) : Type 0 where
  spans : (n : ℕ) (ks : List ℕ) → extent (suc n) (map kind_of_entry xs ++ ks) ≡ length xs + extent n ks

span_2 : (n : ℕ) (xs ys : List Entry) (ks : List ℕ) → Spans xs → Spans ys → extent (suc (suc n)) (map kind_of_entry (xs ++ ys) ++ ks) ≡ length (xs ++ ys) + extent n ks
span_2 n xs ys ks a b =
    ap (λ z. extent (suc (suc n)) (z ++ ks)) (map-append kind_of_entry xs ys) ∙ ap (extent (suc (suc n))) (append_assoc (map kind_of_entry xs) (map kind_of_entry ys) ks)
    ∙ a.spans (suc n) (map kind_of_entry ys ++ ks) ∙ ap (λ m. length xs + m) (b.spans n ks) ∙ (let q : length xs + (length ys + extent n ks) ≡ length (xs ++ ys) + extent n ks = omega (arith, length-append xs ys) in q)

span_3 : (n : ℕ) (xs ys zs : List Entry) (ks : List ℕ) → Spans xs → Spans ys → Spans zs → extent (suc (suc (suc n))) (map kind_of_entry (xs ++ (ys ++ zs)) ++ ks) ≡ length (xs ++ (ys ++ zs)) + extent n ks
span_3 n xs ys zs ks a b c =
    ap (λ z. extent (suc (suc (suc n))) (z ++ ks)) (map-append kind_of_entry xs (ys ++ zs)) ∙ ap (extent (suc (suc (suc n)))) (append_assoc (map kind_of_entry xs) (map kind_of_entry (ys ++ zs)) ks)
    ∙ a.spans (suc (suc n)) (map kind_of_entry (ys ++ zs) ++ ks) ∙ ap (λ m. length xs + m) (span_2 n ys zs ks b c)
    ∙ (let q : length xs + (length (ys ++ zs) + extent n ks) ≡ length (xs ++ (ys ++ zs)) + extent n ks = omega (arith, length-append xs (ys ++ zs)) in q)

-- a part, and then its children
up_0 : (n : ℕ) (ks : List ℕ) → suc (extent (0 + n) ks) ≡ 1 + extent n ks
up_0 n ks = ap (λ m. suc (extent m ks)) (let q : 0 + n ≡ n = omega arith in q) ∙ (let q : suc (extent n ks) ≡ 1 + extent n ks = omega arith in q)

up_1 : (n : ℕ) (xs : List Entry) (ks : List ℕ) → Spans xs → suc (extent (1 + n) (map kind_of_entry xs ++ ks)) ≡ suc (length xs) + extent n ks
up_1 n xs ks a =
    ap (λ m. suc (extent m (map kind_of_entry xs ++ ks))) (let q : 1 + n ≡ suc n = omega arith in q) ∙ ap suc (a.spans n ks)
    ∙ (let q : suc (length xs + extent n ks) ≡ suc (length xs) + extent n ks = omega arith in q)

up_2 : (n : ℕ) (xs ys : List Entry) (ks : List ℕ) → Spans xs → Spans ys → suc (extent (2 + n) (map kind_of_entry (xs ++ ys) ++ ks)) ≡ suc (length (xs ++ ys)) + extent n ks
up_2 n xs ys ks a b =
    ap (λ m. suc (extent m (map kind_of_entry (xs ++ ys) ++ ks))) (let q : 2 + n ≡ suc (suc n) = omega arith in q) ∙ ap suc (span_2 n xs ys ks a b)
    ∙ (let q : suc (length (xs ++ ys) + extent n ks) ≡ suc (length (xs ++ ys)) + extent n ks = omega arith in q)

up_3 : (n : ℕ) (xs ys zs : List Entry) (ks : List ℕ) → Spans xs → Spans ys → Spans zs
    → suc (extent (3 + n) (map kind_of_entry (xs ++ (ys ++ zs)) ++ ks)) ≡ suc (length (xs ++ (ys ++ zs))) + extent n ks
up_3 n xs ys zs ks a b c =
    ap (λ m. suc (extent m (map kind_of_entry (xs ++ (ys ++ zs)) ++ ks))) (let q : 3 + n ≡ suc (suc (suc n)) = omega arith in q) ∙ ap suc (span_3 n xs ys zs ks a b c)
    ∙ (let q : suc (length (xs ++ (ys ++ zs)) + extent n ks) ≡ suc (length (xs ++ (ys ++ zs))) + extent n ks = omega arith in q)

spans_all : {s : Sort} (t : Labelled s) → Spans (cells t)
spans_all (var A n) = record { spans = up_0 }
spans_all (truth A b) = record { spans = up_0 }
spans_all (num A n) = record { spans = up_0 }
spans_all (succ A e) = record { spans = λ n ks. up_1 n _ ks (spans_all e) }
spans_all (unit A) = record { spans = up_0 }
spans_all (inst A i) = record { spans = up_0 }
spans_all (fn A a c) = record { spans = λ n ks. up_1 n _ ks (spans_all c) }
spans_all (handler A a c cs) = record { spans = λ n ks. (up_2 n _ _ ks (spans_all c) (spans_all cs)) }
spans_all (case e op i c cs) = record { spans = λ n ks. (up_3 n _ _ _ ks (spans_all i) (spans_all c) (spans_all cs)) }
spans_all (nil C) = record { spans = up_0 }
spans_all (if C e c c') = record { spans = λ n ks. (up_3 n _ _ _ ks (spans_all e) (spans_all c) (spans_all c')) }
spans_all (match C e c c') = record { spans = λ n ks. (up_3 n _ _ _ ks (spans_all e) (spans_all c) (spans_all c')) }
spans_all (absurd_at C e) = record { spans = λ n ks. up_1 n _ ks (spans_all e) }
spans_all (apply C e f) = record { spans = λ n ks. (up_2 n _ _ ks (spans_all e) (spans_all f)) }
spans_all (val C e) = record { spans = λ n ks. up_1 n _ ks (spans_all e) }
spans_all (call C e op i w c) = record { spans = λ n ks. (up_3 n _ _ _ ks (spans_all i) (spans_all w) (spans_all c)) }
spans_all (bind C c c') = record { spans = λ n ks. (up_2 n _ _ ks (spans_all c) (spans_all c')) }
spans_all (rec C a c c') = record { spans = λ n ks. (up_2 n _ _ ks (spans_all c) (spans_all c')) }
spans_all (handle C e c) = record { spans = λ n ks. (up_2 n _ _ ks (spans_all e) (spans_all c)) }

kinds_of : (l : Listing) (ps : List PartRow) → map kind_of ps ≡ map kind_of_entry (map (entry l) ps)
kinds_of l [] = refl
kinds_of l (p ∷ ps) = ap (λ ks. p.kind ∷ ks) (kinds_of l ps)

-- a term ends after its entries
pub laid_ends : {s : Sort} (l : Listing) (r : ℕ) (t : Labelled s) → Laid l r (cells t) → end_of l r ≡ r + length (cells t)
unfolding end_of
laid_ends l r t h =
    ap (λ n. r + n) (ap (extent 1) (kinds_of l (drop r l.parts) ∙ ap (map kind_of_entry) h.reads ∙ map-append kind_of_entry (cells t) h.rest) ∙ (spans_all t).spans 0 (map kind_of_entry h.rest))
    ∙ (let q : r + (length (cells t) + 0) ≡ r + length (cells t) = omega arith in q)

module _ (l : Listing) (r : ℕ) (x : Entry) where
  -- a part with one, two or three children
  pub record One (s : Sort) (t : Labelled s) : Type 0 where
    pub short : r < length l.parts
    pub is : entry l (row l r) ≡ x
    pub first : Placed l s (r + 1) t

  pub one : {s : Sort} (t : Labelled s) → Laid l r (x ∷ cells t) → One s t
  one t h = let f = laid_first l r x (cells t) h in record { short = f.short; is = f.is; first = laid_placed l (r + 1) t f.below }

  pub record Two (s u : Sort) (t : Labelled s) (v : Labelled u) : Type 0 where
    pub short : r < length l.parts
    pub is : entry l (row l r) ≡ x
    pub first : Placed l s (r + 1) t
    pub second : Placed l u (end_of l (r + 1)) v

  pub two : {s u : Sort} (t : Labelled s) (v : Labelled u) → Laid l r (x ∷ (cells t ++ cells v)) → Two s u t v
  two t v h =
      let f = laid_first l r x (cells t ++ cells v) h in
      let a = laid_left l (r + 1) (cells t) (cells v) f.below in
      record {
        short = f.short;
        is = f.is;
        first = laid_placed l (r + 1) t a;
        second = laid_placed l (end_of l (r + 1)) v (subst (λ n. Laid l n (cells v)) (sym (laid_ends l (r + 1) t a)) (laid_right l (r + 1) (cells t) (cells v) f.below));
      }

  pub record Three (s u w : Sort) (t : Labelled s) (v : Labelled u) (y : Labelled w) : Type 0 where
    pub short : r < length l.parts
    pub is : entry l (row l r) ≡ x
    pub first : Placed l s (r + 1) t
    pub second : Placed l u (end_of l (r + 1)) v
    pub third : Placed l w (end_of l (end_of l (r + 1))) y

  pub three : {s u w : Sort} (t : Labelled s) (v : Labelled u) (y : Labelled w) → Laid l r (x ∷ (cells t ++ (cells v ++ cells y))) → Three s u w t v y
  three t v y h =
      let f = laid_first l r x (cells t ++ (cells v ++ cells y)) h in
      let a = laid_left l (r + 1) (cells t) (cells v ++ cells y) f.below in
      let b = subst (λ n. Laid l n (cells v ++ cells y)) (sym (laid_ends l (r + 1) t a)) (laid_right l (r + 1) (cells t) (cells v ++ cells y) f.below) in
      let c = laid_left l (end_of l (r + 1)) (cells v) (cells y) b in
      record {
        short = f.short;
        is = f.is;
        first = laid_placed l (r + 1) t a;
        second = laid_placed l (end_of l (r + 1)) v c;
        third = laid_placed l (end_of l (end_of l (r + 1))) y (subst (λ n. Laid l n (cells y)) (sym (laid_ends l (end_of l (r + 1)) v c)) (laid_right l (end_of l (r + 1)) (cells v) (cells y) b));
      }

-- the claim at a term's first part
abbrev pub own : {s : Sort} → Labelled s → Dirty
own (var A n) = (A, 0)
own (truth A b) = (A, 0)
own (num A n) = (A, 0)
own (succ A e) = (A, 0)
own (unit A) = (A, 0)
own (inst A i) = (A, 0)
own (fn A a c) = (A, 0)
own (handler A a c cs) = (A, 0)
own (case e op i c cs) = (bool, 0)
own (nil C) = C
own (if C e c c') = C
own (match C e c c') = C
own (absurd_at C e) = C
own (apply C e f) = C
own (val C e) = C
own (call C e op i w c) = C
own (bind C c c') = C
own (rec C a c c') = C
own (handle C e c) = C

pub record Headed (s : Sort) (t : Labelled s) : Type 0 where
  pub below : List Entry
  pub is : cells t ≡ labelled (head (erase t)) (own t) ∷ below

pub headed : {s : Sort} (t : Labelled s) → Headed s t
headed (var A n) = record { below = []; is = refl }
headed (truth A b) = record { below = []; is = refl }
headed (num A n) = record { below = []; is = refl }
headed (succ A e) = record { below = cells e; is = refl }
headed (unit A) = record { below = []; is = refl }
headed (inst A i) = record { below = []; is = refl }
headed (fn A a c) = record { below = cells c; is = refl }
headed (handler A a c cs) = record { below = cells c ++ cells cs; is = refl }
headed (case e op i c cs) = record { below = cells i ++ (cells c ++ cells cs); is = refl }
headed (nil C) = record { below = []; is = refl }
headed (if C e c c') = record { below = cells e ++ (cells c ++ cells c'); is = refl }
headed (match C e c c') = record { below = cells e ++ (cells c ++ cells c'); is = refl }
headed (absurd_at C e) = record { below = cells e; is = refl }
headed (apply C e f) = record { below = cells e ++ cells f; is = refl }
headed (val C e) = record { below = cells e; is = refl }
headed (call C e op i w c) = record { below = cells i ++ (cells w ++ cells c); is = refl }
headed (bind C c c') = record { below = cells c ++ cells c'; is = refl }
headed (rec C a c c') = record { below = cells c ++ cells c'; is = refl }
headed (handle C e c) = record { below = cells e ++ cells c; is = refl }

module _ (l : Listing) where
  -- a term's first row
  pub placed_first : {s : Sort} (r : ℕ) (t : Labelled s) → Placed l s r t → First l r (labelled (head (erase t)) (own t)) (headed t).below
  placed_first r t h = laid_first l r _ _ (subst (λ xs. Laid l r xs) (headed t).is (placed_laid l r t h))

  pub placed_kind : {s : Sort} (r : ℕ) (t : Labelled s) → Placed l s r t → (row l r).kind ≡ number (head (erase t)).kind
  placed_kind r t h = ap (λ (x : Entry). x.kind) (placed_first r t h).is

  pub placed_a : {s : Sort} (r : ℕ) (t : Labelled s) → Placed l s r t → (row l r).a ≡ (head (erase t)).a
  placed_a r t h = ap (λ (x : Entry). x.a) (placed_first r t h).is

  pub placed_b : {s : Sort} (r : ℕ) (t : Labelled s) → Placed l s r t → (row l r).b ≡ (head (erase t)).b
  placed_b r t h = ap (λ (x : Entry). x.b) (placed_first r t h).is

  own_expr : (t : Labelled expr) → (own t).0 ≡ claim t
  own_expr (var A n) = refl
  own_expr (truth A b) = refl
  own_expr (num A n) = refl
  own_expr (succ A e) = refl
  own_expr (unit A) = refl
  own_expr (inst A i) = refl
  own_expr (fn A a c) = refl
  own_expr (handler A a c cs) = refl

  own_comp : (t : Labelled comp) → own t ≡ claim t
  own_comp (if C e c c') = refl
  own_comp (match C e c c') = refl
  own_comp (absurd_at C e) = refl
  own_comp (apply C e f) = refl
  own_comp (val C e) = refl
  own_comp (call C e op i w c) = refl
  own_comp (bind C c c') = refl
  own_comp (rec C a c c') = refl
  own_comp (handle C e c) = refl

  pub kind_is : {s : Sort} (r : ℕ) (t : Labelled s) → Placed l s r t → kind_or (kinded (row l r).kind) ≡ (head (erase t)).kind
  kind_is r t h = ap kind_or (ap kinded (placed_kind r t h) ∙ numbers.kind (head (erase t)).kind)

  -- what a term claims, by its rows
  pub expr_claim : (r : ℕ) (t : Labelled expr) → Placed l expr r t → (claim_of l (row l r)).0 ≡ claim t
  expr_claim r t h = ap (λ (x : Entry). x.claim.0) (placed_first r t h).is ∙ own_expr t

  pub comp_claim : (r : ℕ) (t : Labelled comp) → Placed l comp r t → claim_of l (row l r) ≡ claim t
  comp_claim r t h = ap (λ (x : Entry). x.claim) (placed_first r t h).is ∙ own_comp t

  pub list_claim : (r : ℕ) (t : Labelled list) → Placed l list r t → claim_of l (row l (end_of l r - 1)) ≡ claim t
  list_claim r (nil C) h =
      let e = laid_ends l r (nil C) (placed_laid l r (nil C) h) in
      ap (λ n. claim_of l (row l n)) (let q : end_of l r - 1 ≡ r = omega (arith, e) in q) ∙ ap (λ (x : Entry). x.claim) (placed_first r (nil C) h).is
  list_claim r (case e op i c cs) h =
      let g = placed_laid l r (case e op i c cs) h in
      let k = three l r (labelled (part k.Case e op) (bool, 0)) i c cs g in
      let a = laid_ends l r (case e op i c cs) g in
      let b = laid_ends l (r + 1) i (placed_laid l (r + 1) i k.first) in
      let d = laid_ends l (end_of l (r + 1)) c (placed_laid l (end_of l (r + 1)) c k.second) in
      let f = laid_ends l (end_of l (end_of l (r + 1))) cs (placed_laid l (end_of l (end_of l (r + 1))) cs k.third) in
      let q : end_of l r ≡ end_of l (end_of l (end_of l (r + 1))) = omega (arith, a, b, d, f, length-append (cells i) (cells c ++ cells cs), length-append (cells c) (cells cs)) in
      ap (λ n. claim_of l (row l (n - 1))) q ∙ list_claim (end_of l (end_of l (r + 1))) cs k.third
