-- What `delete` and `typeof` tell, before what follows it (ECMA-262, 3rd edition, sections 11.4.1 and 11.4.3).
use Rattle.std.specs.Prelude.{Bool, true, false, not}
use Rattle.wjs_by_content.specs.Names.{length_name}
use Rattle.wjs_by_content.specs.Values.{Value, String, Object, same_text}
use Rattle.wjs_meaning.specs.Deeds.{Env, Act, Do, Look, Reference, Local, Global, Member}
use Rattle.wjs_meaning.specs.Expressions.{type_name}
use Rattle.wjs_meaning.specs.Properties.{delete}

-- the name of a value's type
abbrev pub type_of : Value → (Value → Act) → Act
type_of v go = Do Look (λ arena. go (String (type_name arena v)))

-- whether what a reference stands for is gone
abbrev pub deleted : Reference → Env → (Bool → Act) → Act
deleted (Local scope name) env go = go false
deleted (Global name) env go = delete env.global name env go
deleted (Member (Object o) name) env go = delete o name env go
deleted (Member (String t) name) env go = go (not (same_text name length_name))
deleted (Member base name) env go = go true
