-- An entry put together of its parts.
use Rattle.std.proofs.Common.{◌≡◌, ℕ, List, [], length, Option, None, Some, refl, sym, ◌∙◌, IsTrue, ◌==◌}
use Rattle.std.proofs.lemmas.Bool.{eqb-true}
use Rattle.std.proofs.lemmas.List.{nil_from_length}
use Rattle.std.proofs.lemmas.Option.{none-some}
use Rattle.wjs_base.specs.declared.ids.ObjId.{ObjId}
use Rattle.wjs_base.specs.declared.values.Name.{Name}
use Rattle.wjs_base.specs.declared.values.Value.TheVariants as values
use Rattle.wjs_arena.specs.declared.link.Linked.{Linked}
use Rattle.wjs_arena.specs.declared.link.Linked.TheVariants as kept
use Rattle.wjs_arena.specs.declared.object.Code.TheVariants as codes
use Rattle.wjs_arena.specs.declared.object.Flags.{Flags}
use Rattle.wjs_arena.specs.declared.object.Object.{Object}
use Rattle.wjs_arena.specs.declared.hidden.Hidden.{Hidden}
use Rattle.wjs_arena.specs.declared.rest.Rest.TheVariants as rests
use Rattle.wjs_arena.specs.Hidden.{hidden_list}
use Rattle.wjs_arena.specs.Links.{depth_in, link}
use Rattle.wjs_arena.specs.Packed.{Few, plain, few_in, few_of, unpacked}

-- a link that is kept in short isn't wide, and so the depth stands beside it
pub depth_kept : (linked : Linked) (owner serial : ℕ) (x : Option ObjId) (depth wide : ℕ) → ((w : Option ObjId) → link linked owner serial w ≡ x)
    → depth_in linked depth wide ≡ depth
depth_kept kept.None owner serial x depth wide h = refl
depth_kept kept.Short owner serial x depth wide h = refl
depth_kept kept.Wide owner serial x depth wide h = absurd (none-some (record { owner = owner; serial = serial }) (h None ∙ sym (h (Some _))))

pub packed_is : (depth : ℕ) (x : Object) (d : ℕ) (prototype scope : Option ObjId) (few : Few) → d ≡ depth → prototype ≡ x.prototype → scope ≡ x.scope → few ≡ few_of x
    → unpacked d x.class prototype scope few x.all_kept ≡ record { object = x; depth = depth }
packed_is depth x d prototype scope few e p s r = λ i. record {
  object = record {
    class = x.class;
    prototype = p i;
    scope = s i;
    code = (r i).code;
    primitive = (r i).primitive;
    world = (r i).world;
    fixed = (r i).fixed;
    flags = (r i).flags;
    all_kept = x.all_kept;
  };
  depth = e i;
}

-- an object with nothing that few have
pub plain_is : (x : Object) → x.code ≡ codes.None → x.primitive ≡ values.Undefined → x.world ≡ None → x.fixed ≡ [] → x.flags ≡ [] → plain ≡ few_of x
plain_is x c p w f g = λ i. record { code = sym c i; primitive = sym p i; world = sym w i; fixed = sym f i; flags = sym g i }

-- an object that hides names and has nothing else that few have
pub hidden_is : (x : Object) (h : Hidden) → x.code ≡ codes.None → x.primitive ≡ values.Undefined → x.world ≡ None → x.fixed ≡ [] → x.flags ≡ hidden_list h → few_in (rests.Hidden h) ≡ few_of x
hidden_is x h c p w f g = λ i. record { code = sym c i; primitive = sym p i; world = sym w i; fixed = sym f i; flags = sym g i }

-- an object that lists attributes and has nothing else that few have
pub listed_is : (x : Object) (flags : List (Name × Flags)) → x.code ≡ codes.None → x.primitive ≡ values.Undefined → x.world ≡ None → x.fixed ≡ [] → flags ≡ x.flags → record plain { flags = flags } ≡ few_of x
listed_is x flags c p w f g = λ i. record { code = sym c i; primitive = sym p i; world = sym w i; fixed = sym f i; flags = g i }

pub none_in : {A : Type 0} (xs : List A) → IsTrue (length xs == 0) → xs ≡ []
none_in xs h = nil_from_length xs (eqb-true (length xs) 0 h)
