-- Ends that go past what follows: those that are not normal, and those that give no value.
use Rattle.std.proofs.Common.{◌≡◌, refl}
use Rattle.wjs_base.specs.Text.{Table}
use Rattle.wjs_base.specs.declared.values.Value.{Value as Numbered}
use Rattle.wjs_by_content.specs.Values.{Value}
use Rattle.wjs_meaning.specs.Deeds.{Act, Ret, then_normal, then_value}
use Rattle.wjs_model.specs.declared.frame.Completion.{Completion}
use Rattle.wjs_model.specs.declared.frame.Completion.TheVariants as completions
use Rattle.wjs_model.specs.Contents.{completion_in}

pub other_passes : (act : Act) (t : Table) (e : Completion) → (e ≡ completions.Normal → ⊥) → then_normal act (completion_in t e) ≡ Ret (completion_in t e)
other_passes act t (completions.Gives v) h = refl
other_passes act t (completions.Refers r) h = refl
other_passes act t completions.Normal h = absurd (h refl)
other_passes act t (completions.Breaks label) h = refl
other_passes act t (completions.Continues label) h = refl
other_passes act t (completions.Returns v) h = refl
other_passes act t (completions.Throws v) h = refl

-- a completion that gives no value
pub value_passes : (go : Value → Act) (t : Table) (e : Completion) → ((v : Numbered) → e ≡ completions.Gives v → ⊥) → then_value go (completion_in t e) ≡ Ret (completion_in t e)
value_passes go t (completions.Gives v) h = absurd (h v refl)
value_passes go t (completions.Refers r) h = refl
value_passes go t completions.Normal h = refl
value_passes go t (completions.Breaks label) h = refl
value_passes go t (completions.Continues label) h = refl
value_passes go t (completions.Returns v) h = refl
value_passes go t (completions.Throws v) h = refl
