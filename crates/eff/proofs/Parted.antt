-- Claims follow just where every part's rule holds.
use Rattle.std.proofs.Common.{◌≡◌, suc, List, [], ◌∷◌, ◌++◌, length, refl, ap, arith, length-append}
use Rattle.eff.specs.Sorts.{Sort}
use Rattle.eff.specs.Syntax.{size}
use Rattle.eff.specs.Types as t
use Rattle.eff.specs.Tables.{Tables, takes, gives, type}
use Rattle.eff.specs.Dirt.{Dirts}
use Rattle.eff.specs.Rules.{Cxt}
use Rattle.eff.specs.Labels.{Labelled, var, truth, num, succ, unit, inst, fn, handler, case, nil, if, match, absurd, apply, val, call, bind, rec, handle, claim, erase, columns}
use Rattle.eff.specs.Claims.{parameter, Follows}
use Rattle.eff.specs.Standing.{Standing, standing, AllRules, ClaimsFollowByPart}

module _ (T : Tables) (D : Dirts) where
  both : (ps qs : List Standing) → AllRules T D ps → AllRules T D qs → AllRules T D (ps ++ qs)
  both [] qs h k = k
  both (p ∷ ps) qs h k = (h.0, both ps qs h.1 k)

  front : (ps qs : List Standing) → AllRules T D (ps ++ qs) → AllRules T D ps
  front [] qs h = tt
  front (p ∷ ps) qs h = (h.0, front ps qs h.1)

  back : (ps qs : List Standing) → AllRules T D (ps ++ qs) → AllRules T D qs
  back [] qs h = h
  back (p ∷ ps) qs h = back ps qs h.1

  all : {s : Sort} (l : Labelled s) (Γ : Cxt) → Follows T D Γ l → AllRules T D (standing T Γ l)
  all (var A n) Γ f = (f, tt)
  all (truth A b) Γ f = (f, tt)
  all (num A n) Γ f = (f, tt)
  all (succ A e) Γ f = (f.0, (all e _ f.1))
  all (unit A) Γ f = (f, tt)
  all (inst A i) Γ f = (f, tt)
  all (fn A a c) Γ f = (f.0, (all c _ f.1))
  all (handler A a c cs) Γ f = (f.0, both _ _ (all c _ f.1) (all cs _ f.2))
  all (case e op i c cs) Γ f = (f.0, both _ _ (all i _ f.1) (both _ _ (all c _ f.2) (all cs _ f.3)))
  all (nil C) Γ f = (f, tt)
  all (if C e c c') Γ f = (f.0, both _ _ (all e _ f.1) (both _ _ (all c _ f.2) (all c' _ f.3)))
  all (match C e c c') Γ f = (f.0, both _ _ (all e _ f.1) (both _ _ (all c _ f.2) (all c' _ f.3)))
  all (absurd C e) Γ f = (f.0, (all e _ f.1))
  all (apply C e h) Γ f = (f.0, both _ _ (all e _ f.1) (all h _ f.2))
  all (val C e) Γ f = (f.0, (all e _ f.1))
  all (call C e op i w c) Γ f = (f.0, both _ _ (all i _ f.1) (both _ _ (all w _ f.2) (all c _ f.3)))
  all (bind C c c') Γ f = (f.0, both _ _ (all c _ f.1) (all c' _ f.2))
  all (rec C a c c') Γ f = (f.0, both _ _ (all c _ f.1) (all c' _ f.2))
  all (handle C e c) Γ f = (f.0, both _ _ (all e _ f.1) (all c _ f.2))

  follow : {s : Sort} (l : Labelled s) (Γ : Cxt) → AllRules T D (standing T Γ l) → Follows T D Γ l
  follow (var A n) Γ h = h.0
  follow (truth A b) Γ h = h.0
  follow (num A n) Γ h = h.0
  follow (succ A e) Γ h = (h.0, follow e Γ h.1)
  follow (unit A) Γ h = h.0
  follow (inst A i) Γ h = h.0
  follow (fn A a c) Γ h = (h.0, follow c (type T a ∷ Γ) h.1)
  follow (handler A a c cs) Γ h =
      let x = standing T (type T a ∷ Γ) c in let y = standing T Γ cs in
      (h.0, follow c (type T a ∷ Γ) (front x y h.1), follow cs Γ (back x y h.1))
  follow (case e op i c cs) Γ h =
      let x = standing T Γ i in let y = standing T (t.fun (type T (gives T e op)) (claim cs).0 (claim cs).1 ∷ type T (takes T e op) ∷ Γ) c in let z = standing T Γ cs in
      let r = back x (y ++ z) h.1 in
      (h.0, follow i Γ (front x (y ++ z) h.1), follow c (t.fun (type T (gives T e op)) (claim cs).0 (claim cs).1 ∷ type T (takes T e op) ∷ Γ) (front y z r), follow cs Γ (back y z r))
  follow (nil C) Γ h = h.0
  follow (if C e c c') Γ h =
      let x = standing T Γ e in let y = standing T Γ c in let z = standing T Γ c' in
      let r = back x (y ++ z) h.1 in
      (h.0, follow e Γ (front x (y ++ z) h.1), follow c Γ (front y z r), follow c' Γ (back y z r))
  follow (match C e c c') Γ h =
      let x = standing T Γ e in let y = standing T Γ c in let z = standing T (t.nat ∷ Γ) c' in
      let r = back x (y ++ z) h.1 in
      (h.0, follow e Γ (front x (y ++ z) h.1), follow c Γ (front y z r), follow c' (t.nat ∷ Γ) (back y z r))
  follow (absurd C e) Γ h = (h.0, follow e Γ h.1)
  follow (apply C e f) Γ h =
      let x = standing T Γ e in let y = standing T Γ f in
      (h.0, follow e Γ (front x y h.1), follow f Γ (back x y h.1))
  follow (val C e) Γ h = (h.0, follow e Γ h.1)
  follow (call C e op i w c) Γ h =
      let x = standing T Γ i in let y = standing T Γ w in let z = standing T (type T (gives T e op) ∷ Γ) c in
      let r = back x (y ++ z) h.1 in
      (h.0, follow i Γ (front x (y ++ z) h.1), follow w Γ (front y z r), follow c (type T (gives T e op) ∷ Γ) (back y z r))
  follow (bind C c c') Γ h =
      let x = standing T Γ c in let y = standing T ((claim c).0 ∷ Γ) c' in
      (h.0, follow c Γ (front x y h.1), follow c' ((claim c).0 ∷ Γ) (back x y h.1))
  follow (rec C a c c') Γ h =
      let x = standing T (type T a ∷ parameter (type T a) ∷ Γ) c in let y = standing T (type T a ∷ Γ) c' in
      (h.0, follow c (type T a ∷ parameter (type T a) ∷ Γ) (front x y h.1), follow c' (type T a ∷ Γ) (back x y h.1))
  follow (handle C e c) Γ h =
      let x = standing T Γ e in let y = standing T Γ c in
      (h.0, follow e Γ (front x y h.1), follow c Γ (back x y h.1))

part_count : (T : Tables) {s : Sort} (l : Labelled s) (Γ : Cxt) → length (standing T Γ l) ≡ size (erase l)
part_count T (var A n) Γ = refl
part_count T (truth A b) Γ = refl
part_count T (num A n) Γ = refl
part_count T (succ A e) Γ = ap suc (part_count T e Γ)
part_count T (unit A) Γ = refl
part_count T (inst A i) Γ = refl
part_count T (fn A a c) Γ = ap suc (part_count T c (type T a ∷ Γ))
part_count T (handler A a c cs) Γ = let p0 = part_count T c (type T a ∷ Γ) in let p1 = part_count T cs Γ in simp length-append (omega arith)
part_count T (case e op i c cs) Γ = let p0 = part_count T i Γ in let p1 = part_count T c (t.fun (type T (gives T e op)) (claim cs).0 (claim cs).1 ∷ type T (takes T e op) ∷ Γ) in let p2 = part_count T cs Γ in simp length-append (omega arith)
part_count T (nil C) Γ = refl
part_count T (if C e c c') Γ = let p0 = part_count T e Γ in let p1 = part_count T c Γ in let p2 = part_count T c' Γ in simp length-append (omega arith)
part_count T (match C e c c') Γ = let p0 = part_count T e Γ in let p1 = part_count T c Γ in let p2 = part_count T c' (t.nat ∷ Γ) in simp length-append (omega arith)
part_count T (absurd C e) Γ = ap suc (part_count T e Γ)
part_count T (apply C e f) Γ = let p0 = part_count T e Γ in let p1 = part_count T f Γ in simp length-append (omega arith)
part_count T (val C e) Γ = ap suc (part_count T e Γ)
part_count T (call C e op i w c) Γ = let p0 = part_count T i Γ in let p1 = part_count T w Γ in let p2 = part_count T c (type T (gives T e op) ∷ Γ) in simp length-append (omega arith)
part_count T (bind C c c') Γ = let p0 = part_count T c Γ in let p1 = part_count T c' ((claim c).0 ∷ Γ) in simp length-append (omega arith)
part_count T (rec C a c c') Γ = let p0 = part_count T c (type T a ∷ parameter (type T a) ∷ Γ) in let p1 = part_count T c' (type T a ∷ Γ) in simp length-append (omega arith)
part_count T (handle C e c) Γ = let p0 = part_count T e Γ in let p1 = part_count T c Γ in simp length-append (omega arith)

pub claim_count : {s : Sort} (l : Labelled s) → length (columns l) ≡ size (erase l)
claim_count (var A n) = refl
claim_count (truth A b) = refl
claim_count (num A n) = refl
claim_count (succ A e) = ap suc (claim_count e)
claim_count (unit A) = refl
claim_count (inst A i) = refl
claim_count (fn A a c) = ap suc (claim_count c)
claim_count (handler A a c cs) = let p0 = claim_count c in let p1 = claim_count cs in simp length-append (omega arith)
claim_count (case e op i c cs) = let p0 = claim_count i in let p1 = claim_count c in let p2 = claim_count cs in simp length-append (omega arith)
claim_count (nil C) = refl
claim_count (if C e c c') = let p0 = claim_count e in let p1 = claim_count c in let p2 = claim_count c' in simp length-append (omega arith)
claim_count (match C e c c') = let p0 = claim_count e in let p1 = claim_count c in let p2 = claim_count c' in simp length-append (omega arith)
claim_count (absurd C e) = ap suc (claim_count e)
claim_count (apply C e f) = let p0 = claim_count e in let p1 = claim_count f in simp length-append (omega arith)
claim_count (val C e) = ap suc (claim_count e)
claim_count (call C e op i w c) = let p0 = claim_count i in let p1 = claim_count w in let p2 = claim_count c in simp length-append (omega arith)
claim_count (bind C c c') = let p0 = claim_count c in let p1 = claim_count c' in simp length-append (omega arith)
claim_count (rec C a c c') = let p0 = claim_count c in let p1 = claim_count c' in simp length-append (omega arith)
claim_count (handle C e c) = let p0 = claim_count e in let p1 = claim_count c in simp length-append (omega arith)

pub by_part : ClaimsFollowByPart
by_part s l = record { rules = λ T D Γ. (λ f. all T D l Γ f, λ h. follow T D l Γ h); parts = λ T Γ. part_count T l Γ; claims = claim_count l }
