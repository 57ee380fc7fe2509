-- A term that rows in range spell has labels of which they are the rows.
use Rattle.std.proofs.Common.{◌≡◌, ℕ, List, [], ◌∷◌, ◌++◌, map, sym, refl, ap, ◌∙◌, subst, ap₂, append_assoc, append-nil, arith}
use Rattle.std.specs.List.{AllByRecursion}
use Rattle.std.proofs.lemmas.List.{map-append}
use Rattle.eff.specs.Sorts.{Sort}
use Rattle.eff.specs.Types.{Dirty, bool}
use Rattle.eff.specs.Tables.{Tables, type}
use Rattle.eff.specs.Dirt.{Dirts, sets}
use Rattle.eff.specs.Checked.{Checked, Declared}
use Rattle.eff.specs.Kinds.{number}
use Rattle.eff.specs.Syntax.{Term, part, digit, flatten}
use Rattle.eff.specs.Syntax as y
use Rattle.eff.specs.Labels.{Labelled, var, truth, num, succ, unit, inst, fn, handler, case, nil, if, match, absurd as absurd_at, apply, val, call, bind, rec, handle, erase, DeclaredClaims}
use Rattle.eff.specs.declared.part.Part.{Part}
use Rattle.eff.specs.declared.ground.Ground.TheVariants as g
use Rattle.eff.specs.declared.kind.Kind.TheVariants as k
use Rattle.eff.proofs.KindNumbers.{numbers}
use Rattle.eff.proofs.TypeNumbers.{number_type, by_number}
use Rattle.sheet.specs.declared.rows.PartRow.{PartRow}
use Rattle.sheet.specs.Rows.{Listing}
use Rattle.table.specs.Meant.{tables_of}
use Rattle.table.specs.Ranges.{PartRange, claims, Claim, Columns}
use Rattle.shape.specs.Entries.{Entry as Key, said as key, written as key_of}
use Rattle.claim.specs.Placing.{Entry, labelled, entry, claim_of, RowsOf}
use Rattle.claim.proofs.Columned.{Columned}
use Rattle.eff.proofs.Paths.{ap₃}
use Rattle.claim.proofs.Ranging.{one_kind}
use Rattle.claim.proofs.Laid.{cells, cells_are}

split_2 : (xs zs : List Part) (ks : List Key) → map key_of (xs ++ zs) ++ ks ≡ map key_of xs ++ (map key_of zs ++ ks)
split_2 xs zs ks = ap (λ m. m ++ ks) (map-append key_of xs zs) ∙ append_assoc (map key_of xs) (map key_of zs) ks

split_3 : (xs zs ws : List Part) (ks : List Key) → map key_of (xs ++ (zs ++ ws)) ++ ks ≡ map key_of xs ++ (map key_of zs ++ (map key_of ws ++ ks))
split_3 xs zs ws ks = split_2 xs (zs ++ ws) ks ∙ ap (λ m. map key_of xs ++ m) (split_2 zs ws ks)

join_2 : (x : Entry) (ps us bs R : List Entry) (q1 : List Entry) → ps ≡ x ∷ q1 → (q2 : List Entry) → q1 ≡ us ++ q2 → q2 ≡ bs ++ R → ps ≡ (x ∷ (us ++ bs)) ++ R
join_2 x ps us bs R q1 e q2 f h = e ∙ ap (λ m. x ∷ m) (f ∙ ap (λ m. us ++ m) h ∙ sym (append_assoc us bs R))

join_3 : (x : Entry) (ps us bs cs R : List Entry) (q1 : List Entry) → ps ≡ x ∷ q1 → (q2 : List Entry) → q1 ≡ us ++ q2 → (q3 : List Entry) → q2 ≡ bs ++ q3 → q3 ≡ cs ++ R
    → ps ≡ (x ∷ (us ++ (bs ++ cs))) ++ R
join_3 x ps us bs cs R q1 e q2 f q3 h i =
    e ∙ ap (λ m. x ∷ m) (f ∙ ap (λ m. us ++ m) (h ∙ ap (λ m. bs ++ m) i ∙ sym (append_assoc bs cs R)) ∙ sym (append_assoc us (bs ++ cs) R))

module _ (l : Listing) (K : Checked (tables_of l) (sets (tables_of l))) where
  abbrev T : Tables
  T = tables_of l

  abbrev D : Dirts
  D = sets T

  -- the first row, of the part x
  record Taken (x : Part) (ps : List PartRow) (ks : List Key) : Type 0 where
    row : PartRow
    left : List PartRow
    is : map (entry l) ps ≡ entry l row ∷ map (entry l) left
    kind : number x.kind ≡ row.kind
    a : row.a ≡ x.a
    b : row.b ≡ x.b
    after : map key left ≡ ks
    range : PartRange l row
    ranged : AllByRecursion (PartRange l) left

  take : (x : Part) (ps : List PartRow) (ks : List Key) → map key ps ≡ key_of x ∷ ks → AllByRecursion (PartRange l) ps → Taken x ps ks
  take x [] ks e r = let z : ◌≡◌ {A = ℕ} 0 1 = cc in absurd (omega arith)
  take x (p ∷ ps) ks e r =
      let e1 : key p ≡ key_of x = cc in
      record { row = p; left = ps; is = refl; kind = sym (ap (λ (j : Key). j.kind) e1); a = ap (λ (j : Key). j.a) e1; b = ap (λ (j : Key). j.b) e1; after = cc; range = r.0; ranged = r.1 }

  claim_of_taken : {x : Part} {ps : List PartRow} {ks : List Key} (h : Taken x ps ks) → Claim l (claims x.kind) h.row.ty h.row.dirt
  claim_of_taken {x} {ps} {ks} h = subst (λ j. Claim l (claims j) h.row.ty h.row.dirt) (one_kind h.range.kind x.kind (numbers.kind_number _ _ h.range.numbered ∙ sym h.kind)) h.range.claim

  entry_is : {x : Part} {ps : List PartRow} {ks : List Key} (h : Taken x ps ks) (C : Dirty) → claim_of l h.row ≡ C → entry l h.row ≡ labelled x C
  entry_is {x} {ps} {ks} h C e = let e1 = sym h.kind in let e2 = h.a in let e3 = h.b in cc

  decl : (n : ℕ) → Declared T D (type T n)
  decl n = (by_number T D K).declared n

  -- labels for a term, and the rows after it
  pub record Labelling (s : Sort) (t : Term s) (ps : List PartRow) (ks : List Key) : Type 0 where
    pub labels : Labelled s
    pub left : List PartRow
    pub erased : erase labels ≡ t
    pub reads : map (entry l) ps ≡ cells labels ++ map (entry l) left
    pub after : map key left ≡ ks
    pub declared : DeclaredClaims T D labels
    pub ranged : AllByRecursion (PartRange l) left

  pub label : {s : Sort} (t : Term s) (ps : List PartRow) (ks : List Key) → map key ps ≡ map key_of (flatten t) ++ ks → AllByRecursion (PartRange l) ps → Labelling s t ps ks
  label (y.var n) ps ks e0 r =
      let h = take (part k.Variable n 0) ps ks e0 r in
      record { labels = var (type T h.row.ty) n; left = h.left; erased = refl; reads = h.is ∙ ap (λ z. z ∷ map (entry l) h.left) (entry_is h (type T h.row.ty, 0) (ap (λ n. (type T h.row.ty, n)) (claim_of_taken h).1)); after = h.after; declared = decl h.row.ty; ranged = h.ranged }
  label (y.truth z) ps ks e0 r =
      let h = take (part k.Truth (digit z) 0) ps ks e0 r in
      record { labels = truth (type T h.row.ty) z; left = h.left; erased = refl; reads = h.is ∙ ap (λ z. z ∷ map (entry l) h.left) (entry_is h (type T h.row.ty, 0) (ap (λ n. (type T h.row.ty, n)) (claim_of_taken h).1)); after = h.after; declared = decl h.row.ty; ranged = h.ranged }
  label (y.num n) ps ks e0 r =
      let h = take (part k.Numeral n 0) ps ks e0 r in
      record { labels = num (type T h.row.ty) n; left = h.left; erased = refl; reads = h.is ∙ ap (λ z. z ∷ map (entry l) h.left) (entry_is h (type T h.row.ty, 0) (ap (λ n. (type T h.row.ty, n)) (claim_of_taken h).1)); after = h.after; declared = decl h.row.ty; ranged = h.ranged }
  label (y.succ e) ps ks e0 r =
      let h = take (part k.Successor 0 0) ps (map key_of (flatten e) ++ ks) e0 r in
      let L1 = label e h.left ks h.after h.ranged in
      record { labels = succ (type T h.row.ty) L1.labels; left = L1.left; erased = ap y.succ L1.erased; reads = h.is ∙ ap (λ z. z ∷ map (entry l) h.left) (entry_is h (type T h.row.ty, 0) (ap (λ n. (type T h.row.ty, n)) (claim_of_taken h).1)) ∙ ap (λ m. (labelled (part k.Successor 0 0) (type T h.row.ty, 0)) ∷ m) L1.reads; after = L1.after; declared = (decl h.row.ty, L1.declared); ranged = L1.ranged }
  label y.unit ps ks e0 r =
      let h = take (part k.Unit 0 0) ps ks e0 r in
      record { labels = unit (type T h.row.ty); left = h.left; erased = refl; reads = h.is ∙ ap (λ z. z ∷ map (entry l) h.left) (entry_is h (type T h.row.ty, 0) (ap (λ n. (type T h.row.ty, n)) (claim_of_taken h).1)); after = h.after; declared = decl h.row.ty; ranged = h.ranged }
  label (y.inst i) ps ks e0 r =
      let h = take (part k.Instance i 0) ps ks e0 r in
      record { labels = inst (type T h.row.ty) i; left = h.left; erased = refl; reads = h.is ∙ ap (λ z. z ∷ map (entry l) h.left) (entry_is h (type T h.row.ty, 0) (ap (λ n. (type T h.row.ty, n)) (claim_of_taken h).1)); after = h.after; declared = decl h.row.ty; ranged = h.ranged }
  label (y.fn a c) ps ks e0 r =
      let h = take (part k.Function a 0) ps (map key_of (flatten c) ++ ks) e0 r in
      let L1 = label c h.left ks h.after h.ranged in
      record { labels = fn (type T h.row.ty) a L1.labels; left = L1.left; erased = ap (y.fn a) L1.erased; reads = h.is ∙ ap (λ z. z ∷ map (entry l) h.left) (entry_is h (type T h.row.ty, 0) (ap (λ n. (type T h.row.ty, n)) (claim_of_taken h).1)) ∙ ap (λ m. (labelled (part k.Function a 0) (type T h.row.ty, 0)) ∷ m) L1.reads; after = L1.after; declared = (decl h.row.ty, L1.declared); ranged = L1.ranged }
  label (y.handler a c cs) ps ks e0 r =
      let h = take (part k.Handler a 0) ps (map key_of (flatten c ++ flatten cs) ++ ks) e0 r in
      let L1 = label c h.left (map key_of (flatten cs) ++ ks) (h.after ∙ split_2 (flatten c) (flatten cs) ks) h.ranged in
      let L2 = label cs L1.left ks L1.after L1.ranged in
      record { labels = handler (type T h.row.ty) a L1.labels L2.labels; left = L2.left; erased = ap₂ (y.handler a) L1.erased L2.erased; reads = join_2 (labelled (part k.Handler a 0) (type T h.row.ty, 0)) (map (entry l) ps) (cells L1.labels) (cells L2.labels) (map (entry l) L2.left) (map (entry l) h.left) (h.is ∙ ap (λ z. z ∷ map (entry l) h.left) (entry_is h (type T h.row.ty, 0) (ap (λ n. (type T h.row.ty, n)) (claim_of_taken h).1))) (map (entry l) L1.left) L1.reads L2.reads; after = L2.after; declared = (decl h.row.ty, L1.declared, L2.declared); ranged = L2.ranged }
  label (y.case f op i c cs) ps ks e0 r =
      let h = take (part k.Case f op) ps (map key_of (flatten i ++ (flatten c ++ flatten cs)) ++ ks) e0 r in
      let L1 = label i h.left (map key_of (flatten c) ++ (map key_of (flatten cs) ++ ks)) (h.after ∙ split_3 (flatten i) (flatten c) (flatten cs) ks) h.ranged in
      let L2 = label c L1.left (map key_of (flatten cs) ++ ks) L1.after L1.ranged in
      let L3 = label cs L2.left ks L2.after L2.ranged in
      record { labels = case f op L1.labels L2.labels L3.labels; left = L3.left; erased = ap₃ (y.case f op) L1.erased L2.erased L3.erased; reads = join_3 (labelled (part k.Case f op) (bool, 0)) (map (entry l) ps) (cells L1.labels) (cells L2.labels) (cells L3.labels) (map (entry l) L3.left) (map (entry l) h.left) (h.is ∙ ap (λ z. z ∷ map (entry l) h.left) (entry_is h (bool, 0) (ap₂ (λ n m. (type T n, m)) (claim_of_taken h).0 (claim_of_taken h).1 ∙ ap (λ X. (X, 0)) (number_type T g.Bool)))) (map (entry l) L1.left) L1.reads (map (entry l) L2.left) L2.reads L3.reads; after = L3.after; declared = (L1.declared, L2.declared, L3.declared); ranged = L3.ranged }
  label y.nil ps ks e0 r =
      let h = take (part k.Nil 0 0) ps ks e0 r in
      record { labels = nil (claim_of l h.row); left = h.left; erased = refl; reads = h.is ∙ ap (λ z. z ∷ map (entry l) h.left) (entry_is h (claim_of l h.row) (refl)); after = h.after; declared = (decl h.row.ty, (claim_of_taken h).1); ranged = h.ranged }
  label (y.if e c d) ps ks e0 r =
      let h = take (part k.If 0 0) ps (map key_of (flatten e ++ (flatten c ++ flatten d)) ++ ks) e0 r in
      let L1 = label e h.left (map key_of (flatten c) ++ (map key_of (flatten d) ++ ks)) (h.after ∙ split_3 (flatten e) (flatten c) (flatten d) ks) h.ranged in
      let L2 = label c L1.left (map key_of (flatten d) ++ ks) L1.after L1.ranged in
      let L3 = label d L2.left ks L2.after L2.ranged in
      record { labels = if (claim_of l h.row) L1.labels L2.labels L3.labels; left = L3.left; erased = ap₃ y.if L1.erased L2.erased L3.erased; reads = join_3 (labelled (part k.If 0 0) (claim_of l h.row)) (map (entry l) ps) (cells L1.labels) (cells L2.labels) (cells L3.labels) (map (entry l) L3.left) (map (entry l) h.left) (h.is ∙ ap (λ z. z ∷ map (entry l) h.left) (entry_is h (claim_of l h.row) (refl))) (map (entry l) L1.left) L1.reads (map (entry l) L2.left) L2.reads L3.reads; after = L3.after; declared = ((decl h.row.ty, (claim_of_taken h).1), L1.declared, L2.declared, L3.declared); ranged = L3.ranged }
  label (y.match e c d) ps ks e0 r =
      let h = take (part k.Match 0 0) ps (map key_of (flatten e ++ (flatten c ++ flatten d)) ++ ks) e0 r in
      let L1 = label e h.left (map key_of (flatten c) ++ (map key_of (flatten d) ++ ks)) (h.after ∙ split_3 (flatten e) (flatten c) (flatten d) ks) h.ranged in
      let L2 = label c L1.left (map key_of (flatten d) ++ ks) L1.after L1.ranged in
      let L3 = label d L2.left ks L2.after L2.ranged in
      record { labels = match (claim_of l h.row) L1.labels L2.labels L3.labels; left = L3.left; erased = ap₃ y.match L1.erased L2.erased L3.erased; reads = join_3 (labelled (part k.Match 0 0) (claim_of l h.row)) (map (entry l) ps) (cells L1.labels) (cells L2.labels) (cells L3.labels) (map (entry l) L3.left) (map (entry l) h.left) (h.is ∙ ap (λ z. z ∷ map (entry l) h.left) (entry_is h (claim_of l h.row) (refl))) (map (entry l) L1.left) L1.reads (map (entry l) L2.left) L2.reads L3.reads; after = L3.after; declared = ((decl h.row.ty, (claim_of_taken h).1), L1.declared, L2.declared, L3.declared); ranged = L3.ranged }
  label (y.absurd e) ps ks e0 r =
      let h = take (part k.Absurd 0 0) ps (map key_of (flatten e) ++ ks) e0 r in
      let L1 = label e h.left ks h.after h.ranged in
      record { labels = absurd_at (claim_of l h.row) L1.labels; left = L1.left; erased = ap y.absurd L1.erased; reads = h.is ∙ ap (λ z. z ∷ map (entry l) h.left) (entry_is h (claim_of l h.row) (refl)) ∙ ap (λ m. (labelled (part k.Absurd 0 0) (claim_of l h.row)) ∷ m) L1.reads; after = L1.after; declared = ((decl h.row.ty, (claim_of_taken h).1), L1.declared); ranged = L1.ranged }
  label (y.apply e f) ps ks e0 r =
      let h = take (part k.Apply 0 0) ps (map key_of (flatten e ++ flatten f) ++ ks) e0 r in
      let L1 = label e h.left (map key_of (flatten f) ++ ks) (h.after ∙ split_2 (flatten e) (flatten f) ks) h.ranged in
      let L2 = label f L1.left ks L1.after L1.ranged in
      record { labels = apply (claim_of l h.row) L1.labels L2.labels; left = L2.left; erased = ap₂ y.apply L1.erased L2.erased; reads = join_2 (labelled (part k.Apply 0 0) (claim_of l h.row)) (map (entry l) ps) (cells L1.labels) (cells L2.labels) (map (entry l) L2.left) (map (entry l) h.left) (h.is ∙ ap (λ z. z ∷ map (entry l) h.left) (entry_is h (claim_of l h.row) (refl))) (map (entry l) L1.left) L1.reads L2.reads; after = L2.after; declared = ((decl h.row.ty, (claim_of_taken h).1), L1.declared, L2.declared); ranged = L2.ranged }
  label (y.val e) ps ks e0 r =
      let h = take (part k.Val 0 0) ps (map key_of (flatten e) ++ ks) e0 r in
      let L1 = label e h.left ks h.after h.ranged in
      record { labels = val (claim_of l h.row) L1.labels; left = L1.left; erased = ap y.val L1.erased; reads = h.is ∙ ap (λ z. z ∷ map (entry l) h.left) (entry_is h (claim_of l h.row) (refl)) ∙ ap (λ m. (labelled (part k.Val 0 0) (claim_of l h.row)) ∷ m) L1.reads; after = L1.after; declared = ((decl h.row.ty, (claim_of_taken h).1), L1.declared); ranged = L1.ranged }
  label (y.call f op i w c) ps ks e0 r =
      let h = take (part k.Call f op) ps (map key_of (flatten i ++ (flatten w ++ flatten c)) ++ ks) e0 r in
      let L1 = label i h.left (map key_of (flatten w) ++ (map key_of (flatten c) ++ ks)) (h.after ∙ split_3 (flatten i) (flatten w) (flatten c) ks) h.ranged in
      let L2 = label w L1.left (map key_of (flatten c) ++ ks) L1.after L1.ranged in
      let L3 = label c L2.left ks L2.after L2.ranged in
      record { labels = call (claim_of l h.row) f op L1.labels L2.labels L3.labels; left = L3.left; erased = ap₃ (y.call f op) L1.erased L2.erased L3.erased; reads = join_3 (labelled (part k.Call f op) (claim_of l h.row)) (map (entry l) ps) (cells L1.labels) (cells L2.labels) (cells L3.labels) (map (entry l) L3.left) (map (entry l) h.left) (h.is ∙ ap (λ z. z ∷ map (entry l) h.left) (entry_is h (claim_of l h.row) (refl))) (map (entry l) L1.left) L1.reads (map (entry l) L2.left) L2.reads L3.reads; after = L3.after; declared = ((decl h.row.ty, (claim_of_taken h).1), L1.declared, L2.declared, L3.declared); ranged = L3.ranged }
  label (y.bind c d) ps ks e0 r =
      let h = take (part k.Let 0 0) ps (map key_of (flatten c ++ flatten d) ++ ks) e0 r in
      let L1 = label c h.left (map key_of (flatten d) ++ ks) (h.after ∙ split_2 (flatten c) (flatten d) ks) h.ranged in
      let L2 = label d L1.left ks L1.after L1.ranged in
      record { labels = bind (claim_of l h.row) L1.labels L2.labels; left = L2.left; erased = ap₂ y.bind L1.erased L2.erased; reads = join_2 (labelled (part k.Let 0 0) (claim_of l h.row)) (map (entry l) ps) (cells L1.labels) (cells L2.labels) (map (entry l) L2.left) (map (entry l) h.left) (h.is ∙ ap (λ z. z ∷ map (entry l) h.left) (entry_is h (claim_of l h.row) (refl))) (map (entry l) L1.left) L1.reads L2.reads; after = L2.after; declared = ((decl h.row.ty, (claim_of_taken h).1), L1.declared, L2.declared); ranged = L2.ranged }
  label (y.rec a c d) ps ks e0 r =
      let h = take (part k.LetRec a 0) ps (map key_of (flatten c ++ flatten d) ++ ks) e0 r in
      let L1 = label c h.left (map key_of (flatten d) ++ ks) (h.after ∙ split_2 (flatten c) (flatten d) ks) h.ranged in
      let L2 = label d L1.left ks L1.after L1.ranged in
      record { labels = rec (claim_of l h.row) a L1.labels L2.labels; left = L2.left; erased = ap₂ (y.rec a) L1.erased L2.erased; reads = join_2 (labelled (part k.LetRec a 0) (claim_of l h.row)) (map (entry l) ps) (cells L1.labels) (cells L2.labels) (map (entry l) L2.left) (map (entry l) h.left) (h.is ∙ ap (λ z. z ∷ map (entry l) h.left) (entry_is h (claim_of l h.row) (refl))) (map (entry l) L1.left) L1.reads L2.reads; after = L2.after; declared = ((decl h.row.ty, (claim_of_taken h).1), L1.declared, L2.declared); ranged = L2.ranged }
  label (y.handle e c) ps ks e0 r =
      let h = take (part k.With 0 0) ps (map key_of (flatten e ++ flatten c) ++ ks) e0 r in
      let L1 = label e h.left (map key_of (flatten c) ++ ks) (h.after ∙ split_2 (flatten e) (flatten c) ks) h.ranged in
      let L2 = label c L1.left ks L1.after L1.ranged in
      record { labels = handle (claim_of l h.row) L1.labels L2.labels; left = L2.left; erased = ap₂ y.handle L1.erased L2.erased; reads = join_2 (labelled (part k.With 0 0) (claim_of l h.row)) (map (entry l) ps) (cells L1.labels) (cells L2.labels) (map (entry l) L2.left) (map (entry l) h.left) (h.is ∙ ap (λ z. z ∷ map (entry l) h.left) (entry_is h (claim_of l h.row) (refl))) (map (entry l) L1.left) L1.reads L2.reads; after = L2.after; declared = ((decl h.row.ty, (claim_of_taken h).1), L1.declared, L2.declared); ranged = L2.ranged }

  -- a term that all the rows spell
  pub record Labels (s : Sort) (t : Term s) (ps : List PartRow) : Type 0 where
    pub labels : Labelled s
    pub erased : erase labels ≡ t
    pub rows : RowsOf l s labels ps
    pub declared : DeclaredClaims T D labels
    pub columns : Columned l labels

  nothing_left : (ps : List PartRow) → map key ps ≡ [] → map (entry l) ps ≡ []
  nothing_left [] e = refl
  nothing_left (p ∷ ps) e = let z : ◌≡◌ {A = ℕ} 0 1 = cc in absurd (omega arith)

  -- the columns of the parts that rows in range spell
  pub columned : (fs : List Part) (ps : List PartRow) → map key ps ≡ map key_of fs → AllByRecursion (PartRange l) ps → AllByRecursion (λ (p : Part). Columns l p.kind p.a p.b) fs
  columned [] ps e r = tt
  columned (x ∷ fs) ps e r =
      let h = take x ps (map key_of fs) e r in
      let j : h.range.kind ≡ x.kind = one_kind h.range.kind x.kind (numbers.kind_number _ _ h.range.numbered ∙ sym h.kind) in (
        subst (λ i. Columns l i x.a x.b) j (subst (λ n. Columns l h.range.kind n x.b) h.a (subst (λ n. Columns l h.range.kind h.row.a n) h.b h.range.columns)),
        columned fs h.left h.after h.ranged,
      )

  pub labelled_of : {s : Sort} (t : Term s) (ps : List PartRow) → map key ps ≡ map key_of (flatten t) → AllByRecursion (PartRange l) ps → Labels s t ps
  labelled_of t ps e r =
      let L = label t ps [] (e ∙ sym (append-nil (map key_of (flatten t)))) r in
      record {
        labels = L.labels;
        erased = L.erased;
        declared = L.declared;
        columns = subst (λ w. AllByRecursion (λ (p : Part). Columns l p.kind p.a p.b) (flatten w)) (sym L.erased) (columned (flatten t) ps e r);
        rows = record { reads = L.reads ∙ ap (λ m. cells L.labels ++ m) (nothing_left L.left L.after) ∙ append-nil (cells L.labels) ∙ sym (cells_are L.labels) };
      }
