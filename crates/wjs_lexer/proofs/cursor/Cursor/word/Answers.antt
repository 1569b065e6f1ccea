use Rattle.std.proofs.Common.{◌≡◌, sym, ◌∙◌, ap, List, [], ◌++◌, ℕ}
use Rattle.std.specs.Prelude.{slice_range}
use Rattle.std.specs.List.{flat_map}
use Rattle.std.specs.Char.Escape.{encode_utf16}
use Rattle.wjs_lexer.proofs.WordsFound.{word_found, key_found}
use Rattle.wjs_lexer.proofs.cursor.Cursor.word.Goals as goal

same_range : (cs ds : List ℕ) (i n : ℕ) → ds ≡ cs → slice_range ds i n ≡ slice_range cs i n
same_range cs ds i n e = ap (λ (xs : List ℕ). slice_range xs i n) e

units_are : (out before name range : List ℕ) → before ≡ [] → out ≡ before ++ flat_map encode_utf16 name → name ≡ range → out ≡ flat_map encode_utf16 range
units_are out before name range e f g = f ∙ ap (λ (us : List ℕ). us ++ flat_map encode_utf16 name) e ∙ ap (λ (t : List ℕ). flat_map encode_utf16 t) g

pub returns-in-Some : goal.returns-in-Some
returns-in-Some c = let a = c.name.ensures in record {
  placed = a.placed;
  same = a.same;
  piece = key_found c.args.self.now.chars.now c.args.self.now.at c.name.new.self.at c.in-Some.key c.requires.start a.some a.rest a.stop
      (sym (same_range c.args.self.now.chars.now c.name.new.self.chars.now c.args.self.now.at c.name.new.self.at a.same) ∙ c.in-Some.ensures);
}

pub returns-in_ok-push_units-in-None : goal.returns-in_ok-push_units-in-None
returns-in_ok-push_units-in-None c =
    let a = c.name.ensures in
    let r = same_range c.args.self.now.chars.now c.name.new.self.chars.now c.args.self.now.at c.name.new.self.at a.same in
    record {
      placed = a.placed;
      same = a.same;
      piece = word_found c.args.self.now.chars.now c.args.self.now.at c.name.new.self.at c.push_units.new.units.items c.requires.start a.some a.rest a.stop
          (λ k e. c.in-None.ensures k (r ∙ e))
          (units_are c.push_units.new.units.items c.clear.new.self.items (slice_range c.name.new.self.chars.now c.args.self.now.at c.name.new.self.at) (slice_range c.args.self.now.chars.now c.args.self.now.at c.name.new.self.at) c.clear.ensures.items c.in_ok-push_units-in-None.ensures r);
    }
