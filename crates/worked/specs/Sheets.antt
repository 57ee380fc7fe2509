-- Worked sheets: their lines, and the rows of the first.
use Rattle.std.specs.Prelude.{ℕ, List, [], ◌∷◌, ◌++◌, codes}
use Rattle.sheet.specs.Rows.{Listing}

-- lines, each with its line feed
abbrev pub lines : List (List ℕ) → List ℕ
lines [] = []
lines (l ∷ ls) = l ++ 10 ∷ lines ls

abbrev pub worked_text : List ℕ
worked_text =
    lines
    (codes "effect op takes gives"
    ∷ codes "0 0 1 2"
    ∷ codes "0 1 1 2"
    ∷ codes "0 2 2 1"
    ∷ []
    ∷ codes "instance effect"
    ∷ codes "0 0"
    ∷ []
    ∷ codes "type kind a b d e"
    ∷ codes "4 5 0 1 0 0"
    ∷ []
    ∷ codes "part kind a b type dirt"
    ∷ codes "0 15 0 1 1 6"
    ∷ codes "1 5 0 0 4 0"
    ∷ codes "2 2 130 0 1 0"
    ∷ codes "3 15 0 2 1 4"
    ∷ codes "4 5 0 0 4 0"
    ∷ codes "5 4 0 0 2 0"
    ∷ codes "6 14 0 0 1 0"
    ∷ codes "7 3 0 0 1 0"
    ∷ codes "8 0 0 0 1 0"
    ∷ []
    ∷ [])

abbrev pub worked_rows : Listing
worked_rows =
    record {
      operations =
          record { effect = 0; op = 0; takes = 1; gives = 2 }
          ∷ record { effect = 0; op = 1; takes = 1; gives = 2 }
          ∷ record { effect = 0; op = 2; takes = 2; gives = 1 }
          ∷ [];
      instances =
          record { number = 0; effect = 0 }
          ∷ [];
      types =
          record { number = 4; kind = 5; a = 0; b = 1; d = 0; e = 0 }
          ∷ [];
      parts =
          record { number = 0; kind = 15; a = 0; b = 1; ty = 1; dirt = 6 }
          ∷ record { number = 1; kind = 5; a = 0; b = 0; ty = 4; dirt = 0 }
          ∷ record { number = 2; kind = 2; a = 130; b = 0; ty = 1; dirt = 0 }
          ∷ record { number = 3; kind = 15; a = 0; b = 2; ty = 1; dirt = 4 }
          ∷ record { number = 4; kind = 5; a = 0; b = 0; ty = 4; dirt = 0 }
          ∷ record { number = 5; kind = 4; a = 0; b = 0; ty = 2; dirt = 0 }
          ∷ record { number = 6; kind = 14; a = 0; b = 0; ty = 1; dirt = 0 }
          ∷ record { number = 7; kind = 3; a = 0; b = 0; ty = 1; dirt = 0 }
          ∷ record { number = 8; kind = 0; a = 0; b = 0; ty = 1; dirt = 0 }
          ∷ [];
    }

-- feel, with the continuation val (successor y), under a handler with the case k 7 and the val branch val x
abbrev pub handled_text : List ℕ
handled_text =
    lines
    (codes "effect op takes gives"
    ∷ codes "0 0 1 2"
    ∷ codes "0 1 1 2"
    ∷ codes "0 2 2 1"
    ∷ []
    ∷ codes "instance effect"
    ∷ codes "0 0"
    ∷ []
    ∷ codes "type kind a b d e"
    ∷ codes "4 5 0 1 0 0"
    ∷ codes "5 6 1 1 4 0"
    ∷ codes "6 4 1 1 0 0"
    ∷ []
    ∷ codes "part kind a b type dirt"
    ∷ codes "0 18 0 0 1 0"
    ∷ codes "1 7 1 0 5 0"
    ∷ codes "2 14 0 0 1 0"
    ∷ codes "3 0 0 0 1 0"
    ∷ codes "4 8 0 2 0 0"
    ∷ codes "5 5 0 0 4 0"
    ∷ codes "6 13 0 0 1 0"
    ∷ codes "7 0 0 0 6 0"
    ∷ codes "8 2 7 0 1 0"
    ∷ codes "9 9 0 0 1 0"
    ∷ codes "10 15 0 2 1 4"
    ∷ codes "11 5 0 0 4 0"
    ∷ codes "12 4 0 0 2 0"
    ∷ codes "13 14 0 0 1 0"
    ∷ codes "14 3 0 0 1 0"
    ∷ codes "15 0 0 0 1 0"
    ∷ []
    ∷ [])

-- feel, with the continuation val y, under a handler without a case, with the val branch val x
abbrev pub passed_text : List ℕ
passed_text =
    lines
    (codes "effect op takes gives"
    ∷ codes "0 0 1 2"
    ∷ codes "0 1 1 2"
    ∷ codes "0 2 2 1"
    ∷ []
    ∷ codes "instance effect"
    ∷ codes "0 0"
    ∷ []
    ∷ codes "type kind a b d e"
    ∷ codes "4 5 0 1 0 0"
    ∷ codes "5 6 1 1 4 4"
    ∷ []
    ∷ codes "part kind a b type dirt"
    ∷ codes "0 18 0 0 1 4"
    ∷ codes "1 7 1 0 5 0"
    ∷ codes "2 14 0 0 1 0"
    ∷ codes "3 0 0 0 1 0"
    ∷ codes "4 9 0 0 1 4"
    ∷ codes "5 15 0 2 1 4"
    ∷ codes "6 5 0 0 4 0"
    ∷ codes "7 4 0 0 2 0"
    ∷ codes "8 14 0 0 1 0"
    ∷ codes "9 0 0 0 1 0"
    ∷ []
    ∷ [])

-- let rec f x = f x in f ()
abbrev pub forever_text : List ℕ
forever_text =
    lines
    (codes "effect op takes gives"
    ∷ []
    ∷ codes "instance effect"
    ∷ []
    ∷ codes "type kind a b d e"
    ∷ codes "4 4 2 2 0 0"
    ∷ []
    ∷ codes "part kind a b type dirt"
    ∷ codes "0 17 4 0 2 0"
    ∷ codes "1 13 0 0 2 0"
    ∷ codes "2 0 0 0 4 0"
    ∷ codes "3 0 1 0 2 0"
    ∷ codes "4 13 0 0 2 0"
    ∷ codes "5 0 0 0 4 0"
    ∷ codes "6 4 0 0 2 0"
    ∷ []
    ∷ [])

-- val ()
abbrev pub unit_text : List ℕ
unit_text =
    lines
    (codes "effect op takes gives"
    ∷ []
    ∷ codes "instance effect"
    ∷ []
    ∷ codes "type kind a b d e"
    ∷ []
    ∷ codes "part kind a b type dirt"
    ∷ codes "0 14 0 0 2 0"
    ∷ codes "1 4 0 0 2 0"
    ∷ []
    ∷ [])

-- val true
abbrev pub truth_text : List ℕ
truth_text =
    lines
    (codes "effect op takes gives"
    ∷ []
    ∷ codes "instance effect"
    ∷ []
    ∷ codes "type kind a b d e"
    ∷ []
    ∷ codes "part kind a b type dirt"
    ∷ codes "0 14 0 0 0 0"
    ∷ codes "1 1 1 0 0 0"
    ∷ []
    ∷ [])

-- val (), with the claim nat
abbrev pub wrong_text : List ℕ
wrong_text =
    lines
    (codes "effect op takes gives"
    ∷ []
    ∷ codes "instance effect"
    ∷ []
    ∷ codes "type kind a b d e"
    ∷ []
    ∷ codes "part kind a b type dirt"
    ∷ codes "0 14 0 0 1 0"
    ∷ codes "1 4 0 0 2 0"
    ∷ []
    ∷ [])

-- let f = (function e: absurd e) in let x = (if true then 5 else 6) in match x: 0, or of y (function z: z) y
abbrev pub choices_text : List ℕ
choices_text =
    lines
    (codes "effect op takes gives"
    ∷ []
    ∷ codes "instance effect"
    ∷ []
    ∷ codes "type kind a b d e"
    ∷ codes "4 4 3 1 0 0"
    ∷ codes "5 4 1 1 0 0"
    ∷ []
    ∷ codes "part kind a b type dirt"
    ∷ codes "0 16 0 0 1 0"
    ∷ codes "1 14 0 0 4 0"
    ∷ codes "2 6 3 0 4 0"
    ∷ codes "3 12 0 0 1 0"
    ∷ codes "4 0 0 0 3 0"
    ∷ codes "5 16 0 0 1 0"
    ∷ codes "6 10 0 0 1 0"
    ∷ codes "7 1 1 0 0 0"
    ∷ codes "8 14 0 0 1 0"
    ∷ codes "9 2 5 0 1 0"
    ∷ codes "10 14 0 0 1 0"
    ∷ codes "11 2 6 0 1 0"
    ∷ codes "12 11 0 0 1 0"
    ∷ codes "13 0 0 0 1 0"
    ∷ codes "14 14 0 0 1 0"
    ∷ codes "15 2 0 0 1 0"
    ∷ codes "16 13 0 0 1 0"
    ∷ codes "17 6 1 0 5 0"
    ∷ codes "18 14 0 0 1 0"
    ∷ codes "19 0 0 0 1 0"
    ∷ codes "20 0 0 0 1 0"
    ∷ []
    ∷ [])
