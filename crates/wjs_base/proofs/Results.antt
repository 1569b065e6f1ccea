-- What is so of an `Ok`.
use Rattle.std.proofs.Common.{◌≡◌, true, false, Result, Ok, Err, OnOk, is_err, is_ok, refl}

pub at_ok : {T E : Type 0} (r : Result T E) (P : Type 0) → is_err r ≡ false → OnOk r P → P
at_ok (Ok x) P e h = h
at_ok (Err x) P e h = cc

pub ok_of : {T E : Type 0} (r : Result T E) → is_err r ≡ false → is_ok r ≡ true
ok_of (Ok x) e = refl
ok_of (Err x) e = cc
