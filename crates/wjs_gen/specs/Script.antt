-- The generated script: n worlds, each of which changes a slot of its own, and every fifth of which also reads its neighbour's.
use Rattle.std.specs.Prelude.{ℕ, List, [], ◌∷◌, ◌++◌, codes, decimal}

-- the bytes of a text and of LF
abbrev line : List ℕ → List ℕ
line text = text ++ 10 ∷ []

-- what stands after the number
unfoldable pub rest : List ℕ
rest =
    line (codes ", o = {}, ws = [], moved = 0, refused = 0, sum = 0, i;")
    ++ line (codes "function change(w, k) { in w { o[k] = o[k] + 7; if (k % 5 == 4) o[k - 1]; } }")
    ++ line (codes "for (i = 0; i < n; i++) o[i] = i;")
    ++ line (codes "for (i = 0; i < n; i++) ws[i] = thisWorld.sprout();")
    ++ line (codes "for (i = 0; i < n; i++) change(ws[i], i);")
    ++ line (codes "for (i = 0; i < n; i++) { try { ws[i].commit(); moved++; } catch (e) { refused++; } }")
    ++ line (codes "for (i = 0; i < n; i++) sum += o[i];")
    ++ line (codes "print(\"moved \" + moved + \" refused \" + refused + \" sum \" + sum);")

-- the bytes of the script, with the number in decimal digits
abbrev pub script : ℕ → List ℕ
script number = codes "var n = " ++ decimal number ++ rest
