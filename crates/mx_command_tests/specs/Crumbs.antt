-- Stores and sinks that move few bytes in a call: what they say of themselves.
use Rattle.mx_io.specs.Store.{StoreState}
use Rattle.mx_io.specs.Sink.{SinkState}
use Rattle.mx_command_tests.specs.declared.crumbs.Crumbs.{Crumbs}

-- as a store: what the store in it says
abbrev pub crumb_store : {S : Type 0} → (S → StoreState) → Crumbs S → StoreState
crumb_store state c = state c.inner

-- as a sink: what the sink in it says
abbrev pub crumb_sink : {S : Type 0} → (S → SinkState) → Crumbs S → SinkState
crumb_sink state c = state c.inner
